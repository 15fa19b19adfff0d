pub mod PageLemmas
pub mod InnerLemmas
pub mod WayLemmas
pub mod DescentLemmas
