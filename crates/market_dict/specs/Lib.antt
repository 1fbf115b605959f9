pub mod Chosen
pub mod Findings
pub mod Holding
pub mod Kinds
pub mod PricesAndBounds
pub mod Refusals
pub mod Takings
