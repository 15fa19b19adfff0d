pub mod Limits
pub mod Lists
pub mod Entries
pub mod Answers
pub mod Scans
pub mod Reports
