pub mod AmountLemmas
pub mod CutLemmas
pub mod GrammarLemmas
pub mod PlainLemmas
pub mod ReadingLaws
pub mod ScaleLemmas
pub mod UnitLemmas
