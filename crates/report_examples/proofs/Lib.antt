pub mod EachPlace
pub mod OneLane
pub mod Unequal
