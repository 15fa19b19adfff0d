pub mod WalkLemmas
pub mod CoverLemmas
pub mod ChangeLemmas
pub mod KeepLemmas
pub mod EmptyLemmas
mod RoomLemmas
mod FoldLemmas
mod SwapLemmas
mod MoveLemmas
pub mod LawLemmas
