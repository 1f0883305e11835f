pub mod AskedLemmas
pub mod StrayLemmas
pub mod LengthLemmas
pub mod ReadingLemmas
pub mod EntryLemmas
pub mod GapLemmas
