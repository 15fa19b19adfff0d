pub mod Escapes
pub mod Commas
pub mod FirstFlaws
pub mod NumberLemmas
