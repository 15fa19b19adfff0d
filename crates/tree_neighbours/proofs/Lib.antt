pub mod NeighbourLemmas
pub mod PairLemmas
pub mod HandLemmas
