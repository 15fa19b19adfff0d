pub mod TupleCutLemmas
pub mod BoundLemmas
pub mod RowLemmas
