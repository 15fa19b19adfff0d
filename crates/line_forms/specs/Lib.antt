pub mod LineForms
pub mod Anew
pub mod Laws
