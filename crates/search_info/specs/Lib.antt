pub mod History
pub mod Rule
pub mod Parts
pub mod Steps
pub mod Passes
pub mod Exchanges
pub mod Outcomes
pub mod Tries
