pub mod LineCounts
pub mod FullLaws
pub mod Samples
pub mod SpellingLaws
