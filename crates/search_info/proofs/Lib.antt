pub mod HistoryLemmas
pub mod StepLemmas
pub mod PartLemmas
pub mod OpeningLemmas
pub mod TotalLemmas
pub mod CallLemmas
