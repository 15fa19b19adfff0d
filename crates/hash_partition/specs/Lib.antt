pub mod Part
pub mod Partition
