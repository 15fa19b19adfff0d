pub mod Shape
pub mod Answers
pub mod State
pub mod Rightness
pub mod Meanings
