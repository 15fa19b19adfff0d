pub mod TraceLemmas
pub mod TableLemmas
