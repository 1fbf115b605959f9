pub mod Amount
pub mod Decimal
pub mod Plain
pub mod Reading
pub mod View
