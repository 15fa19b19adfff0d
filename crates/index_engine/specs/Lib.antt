pub mod Traces
pub mod Searched
pub mod Learners
pub mod Engines
pub mod Leaving
pub mod Writes
