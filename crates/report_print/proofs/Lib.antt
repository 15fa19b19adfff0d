pub mod PrintLemmas
pub mod LoopLemmas
pub mod PlaceLemmas
pub mod ReportLemmas
pub mod SpellLemmas
