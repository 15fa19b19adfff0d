pub mod Order
pub mod Lows
