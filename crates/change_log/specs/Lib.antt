pub mod Log
pub mod Merge
pub mod Entries
