pub mod BoundLemmas
pub mod RowLemmas
pub mod LegalLemmas
