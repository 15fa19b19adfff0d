pub mod ListLemmas
pub mod GroupLemmas
pub mod SizeLemmas
pub mod OwnerLemmas
pub mod SplitLemmas
pub mod BalanceLemmas
pub mod MoveLemmas
