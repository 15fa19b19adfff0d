pub mod Places
pub mod Sums
pub mod Counted
pub mod Laws
