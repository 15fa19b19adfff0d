pub mod Sides
pub mod Neighbours
pub mod Pairs
pub mod LeafHands
