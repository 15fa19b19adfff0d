pub mod LimitLemmas
pub mod WordLemmas
