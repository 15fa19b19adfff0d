pub mod Hashing
pub mod Walk
pub mod Cover
pub mod Change
pub mod Upkeep
pub mod Build
pub mod Moves
pub mod Laws
