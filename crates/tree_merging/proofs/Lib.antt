pub mod RowLemmas
pub mod WithinLemmas
pub mod SiblingLemmas
pub mod PairLemmas
pub mod FrameLemmas
pub mod MergeLemmas
pub mod LiftLemmas
