pub mod Prints
pub mod Texts
pub mod Laws
