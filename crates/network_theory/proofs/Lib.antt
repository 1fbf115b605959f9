pub mod Bridges
pub mod ByParts
pub mod Chains
pub mod Existence
pub mod Factors
pub mod FlowSigns
pub mod Guesses
pub mod LeastAngles
pub mod Outages
pub mod Parts
pub mod Places
pub mod SignedSums
pub mod Solutions
mod WorkedCases
