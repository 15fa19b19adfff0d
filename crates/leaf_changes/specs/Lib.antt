pub mod Holds
pub mod Hashed
pub mod Says
pub mod Commits
pub mod Changes
pub mod Lengthening
