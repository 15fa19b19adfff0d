pub mod Tells
pub mod Says
