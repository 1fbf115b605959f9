pub mod Costs
pub mod Parts
pub mod Rounding
pub mod Steps
