pub mod Named
pub mod Pairs
pub mod Refusals
