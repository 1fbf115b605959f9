pub mod Counting
pub mod Naming
pub mod Refusals
pub mod NamesApart
pub mod Walk
pub mod Wholes
