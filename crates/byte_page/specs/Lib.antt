pub mod Form
pub mod Searching
pub mod Moving
pub mod Setting
