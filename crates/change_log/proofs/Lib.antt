pub mod SpreadLemmas
pub mod SortLemmas
