pub mod TreeFrames
pub mod Leaves
pub mod InnerPages
pub mod Neighbours
pub mod Ranges
pub mod Levels
