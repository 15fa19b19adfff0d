pub mod Reading
pub mod Spelling
pub mod Inserting
pub mod Deleting
pub mod Setting
pub mod Appending
pub mod Slots
