pub mod LineLemmas
pub mod MustRunLemmas
pub mod PartLemmas
pub mod TextLemmas
