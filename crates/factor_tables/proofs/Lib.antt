pub mod FactorLemmas
pub mod FindLemmas
pub mod KeyLemmas
pub mod MadeLemmas
pub mod NameLemmas
pub mod OffsetLemmas
pub mod PenaltyLemmas
