pub mod Entering
pub mod Leaving
