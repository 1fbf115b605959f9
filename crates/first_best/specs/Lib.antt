pub mod Holding
pub mod Outcomes
pub mod Raising
