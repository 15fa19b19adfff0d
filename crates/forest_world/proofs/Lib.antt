pub mod HandLemmas
pub mod HashHandLemmas
