pub mod CheckLemmas
pub mod BesideLemmas
pub mod EndLemmas
