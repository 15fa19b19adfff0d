pub mod Groups
pub mod Sizes
pub mod Owners
pub mod Calls
