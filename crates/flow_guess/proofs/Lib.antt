pub mod Falls
pub mod NetSums
pub mod Rounds
pub mod Solutions
