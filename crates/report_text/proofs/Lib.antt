pub mod AnswerLemmas
pub mod ChangeLemmas
pub mod LineLemmas
pub mod ScanLemmas
pub mod RunLemmas
pub mod StatisticsLemmas
pub mod TextLemmas
