pub mod ValueLemmas
pub mod RowSpotLemmas
pub mod SpotLemmas
pub mod TakingLemmas
