pub mod FrameLemmas
pub mod KeptLemmas
pub mod ReplayLemmas
pub mod ReplayLawProofs
