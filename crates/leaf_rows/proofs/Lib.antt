pub mod ChangeLemmas
pub mod FullLemmas
pub mod SetLemmas
