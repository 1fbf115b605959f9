pub mod Columns
pub mod ExactLists
pub mod Made
pub mod Stops
