pub mod Holding
pub mod Marked
pub mod Reached
pub mod Refusals
