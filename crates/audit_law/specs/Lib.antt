pub mod TextLines
pub mod Points
pub mod Verdicts
pub mod Laws
