mod Lists
mod Names
pub mod ShiftTables
pub mod LossTables
pub mod Lengths
