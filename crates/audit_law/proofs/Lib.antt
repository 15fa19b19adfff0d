pub mod SpellLemmas
pub mod LineLemmas
pub mod VerdictLemmas
pub mod ListLemmas
pub mod SubjectLemmas
pub mod JudgeLemmas
