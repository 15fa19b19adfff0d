pub mod Bytes
pub mod Kind
pub mod Record
pub mod Lengths
pub mod Reading
pub mod Laws
pub mod Copying
