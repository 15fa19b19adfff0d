pub mod Leaves
pub mod Parting
pub mod Upkeep
pub mod Hands
pub mod Moves
pub mod MoveLaws
