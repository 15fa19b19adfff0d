pub mod Causes
pub mod Leads
pub mod Follows
pub mod Confirms
pub mod Hits
pub mod Guesses
