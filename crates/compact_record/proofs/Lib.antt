pub mod BytesLemmas
pub mod PartLemmas
pub mod WritingLemmas
pub mod LengthLemmas
pub mod ReadingLemmas
pub mod LawLemmas
pub mod CopyLemmas
