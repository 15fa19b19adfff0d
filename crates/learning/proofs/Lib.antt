pub mod WordLemmas
pub mod LearningLemmas
