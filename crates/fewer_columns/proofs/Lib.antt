mod FewerLemmas
pub mod OrderLemmas
