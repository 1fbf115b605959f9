pub mod ChoiceLaws
pub mod ExchangeLaws
pub mod Multipliers
pub mod PairLaws
pub mod Rows
pub mod SameSystems
