pub mod FormLemmas
pub mod ReadingLemmas
pub mod SeenLemmas
pub mod AnewLemmas
