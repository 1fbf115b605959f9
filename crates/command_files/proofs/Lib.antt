pub mod FileLemmas
pub mod ReadingLemmas
