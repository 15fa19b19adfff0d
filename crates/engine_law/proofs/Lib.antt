pub mod KnownLemmas
pub mod FrameTraceLemmas
pub mod SeenLemmas
pub mod WordLemmas
pub mod LookLemmas
