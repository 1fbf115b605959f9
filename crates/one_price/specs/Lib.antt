pub mod FirstPrices
pub mod Laws
pub mod Margins
