pub mod GrammarLaws
pub mod LaneLaws
pub mod Samples
