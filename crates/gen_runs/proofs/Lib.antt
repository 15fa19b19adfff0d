pub mod DrawnLemmas
pub mod ReplyLemmas
