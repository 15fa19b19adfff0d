pub mod KeptLemmas
pub mod HeadLemmas
pub mod SlotLemmas
pub mod MoveLemmas
pub mod EmptyLemmas
