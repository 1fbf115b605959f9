pub mod GroupLemmas
pub mod LineLemmas
pub mod NumberingLemmas
pub mod CountLemmas
pub mod ApartLemmas
mod PickupSteps
mod WidePickups
pub mod PlaceLemmas
pub mod DualLemmas
pub mod FactorLemmas
pub mod FlowSizes
pub mod FlowSteps
pub mod PositionLemmas
pub mod NameLemmas
pub mod NamedLimits
pub mod TestMarkets
pub mod WalkLemmas
pub mod WholeLemmas
pub mod WideFactors
