pub mod Laws
pub mod PriceSystem
