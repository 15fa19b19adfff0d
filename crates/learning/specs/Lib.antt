pub mod Opening
pub mod Recommendation
pub mod Learning
pub mod BuildRule
pub mod Word
pub mod Bounds
pub mod Laws
