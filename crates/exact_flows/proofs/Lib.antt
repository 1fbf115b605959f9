pub mod Exchanges
pub mod Losses
pub mod Meanings
pub mod Places
pub mod PutIn
pub mod Reading
pub mod Terms
