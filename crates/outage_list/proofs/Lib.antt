pub mod ListingLemmas
pub mod OutageLemmas
pub mod UnitLemmas
