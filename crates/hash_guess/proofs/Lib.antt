pub mod LeadLemmas
pub mod FollowLemmas
pub mod ConfirmLemmas
pub mod HitLemmas
pub mod GuessLemmas
