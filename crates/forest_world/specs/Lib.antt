pub mod Held
pub mod HashHands
pub mod HandLaws
pub mod Opening
