pub mod Steps
pub mod Grammar
pub mod Pieces
pub mod Schema
pub mod Lane
pub mod Views
