pub mod NumberLaws
pub mod SettledLemmas
pub mod SettledOutcomes
