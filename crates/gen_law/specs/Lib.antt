pub mod Drawing
pub mod Worked
pub mod Lanes
pub mod Counts
