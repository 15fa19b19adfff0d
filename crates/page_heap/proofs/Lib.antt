pub mod CellLemmas
pub mod HeapLemmas
