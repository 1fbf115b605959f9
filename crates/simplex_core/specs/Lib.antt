pub mod Fixed
pub mod Operations
pub mod Outcomes
pub mod Posings
pub mod Searches
pub mod States
pub mod Turns
