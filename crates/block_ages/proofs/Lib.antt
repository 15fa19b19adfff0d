pub mod OrderLemmas
pub mod LowsLemmas
