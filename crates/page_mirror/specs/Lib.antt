pub mod Words
pub mod Cells
pub mod Mirror
pub mod Steps
pub mod Empty
pub mod Slots
