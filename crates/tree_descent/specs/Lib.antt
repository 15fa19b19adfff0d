pub mod Leaves
pub mod Paths
pub mod Descents
pub mod Ways
