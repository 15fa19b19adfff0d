pub mod Siblings
pub mod Merges
pub mod FrameMerges
pub mod MergeSteps
pub mod Lifts
