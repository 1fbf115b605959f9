pub mod ChainLemmas
pub mod IncidenceLemmas
pub mod VisitLemmas
pub mod WayLemmas
pub mod SideLemmas
pub mod LoopLemmas
