pub mod Columns
pub mod Injections
pub mod Kirchhoff
pub mod Residuals
