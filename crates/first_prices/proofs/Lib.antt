pub mod CapLemmas
pub mod DualLemmas
pub mod PointLemmas
