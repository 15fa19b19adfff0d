pub mod Entries
pub mod Changes
pub mod Laws
pub mod Sums
pub mod Blocks
pub mod BlockLaws
pub mod Examples
