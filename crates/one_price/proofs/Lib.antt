pub mod EnergyLemmas
pub mod ListLemmas
pub mod MarginLemmas
pub mod NamedLemmas
pub mod OneFirst
