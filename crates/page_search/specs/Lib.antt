pub mod Agreeing
pub mod Cuts
pub mod Judging
pub mod Steps
