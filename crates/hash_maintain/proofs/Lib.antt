pub mod LeafLemmas
pub mod PassLemmas
pub mod PartLemmas
pub mod HoldLemmas
pub mod UpkeepLemmas
pub mod SpaceLemmas
pub mod BuildLemmas
pub mod HandLawLemmas
mod MoveStayLemmas
pub mod MoveLemmas
pub mod MovingLemmas
pub mod MoveLawLemmas
