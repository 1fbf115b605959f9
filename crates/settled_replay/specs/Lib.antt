pub mod Laws
pub mod PrintedReplays
pub mod Refusals
