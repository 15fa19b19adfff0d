pub mod PlaceLemmas
pub mod TextLemmas
