pub mod Lessons
pub mod Builds
pub mod Hows
pub mod Downs
pub mod Taught
pub mod Searches
pub mod Traces
pub mod KeySearches
