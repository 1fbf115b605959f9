pub mod Laws
pub mod PriceNumbers
pub mod Repriced
pub mod Settled
