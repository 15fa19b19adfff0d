mod EmptyLemmas
mod SiteLemmas
mod MarkLemmas
mod StandLemmas
