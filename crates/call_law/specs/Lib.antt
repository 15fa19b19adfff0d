pub mod Spoken
pub mod Trace
pub mod Once
pub mod Hands
