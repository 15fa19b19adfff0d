pub mod Splitting
pub mod Raising
pub mod Remakes
pub mod Keeping
pub mod PartHeld
pub mod Halves
pub mod Plans
pub mod Storeys
