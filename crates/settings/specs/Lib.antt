pub mod Words
pub mod Sized
pub mod Limits
