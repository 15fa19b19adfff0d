pub mod SeekTraces
pub mod Seeks
pub mod SeekHands
pub mod SeekSteps
pub mod SeekSearches
