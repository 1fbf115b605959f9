pub mod Choices
pub mod Exchanges
pub mod Numbers
pub mod Pairs
pub mod SameSystems
pub mod Systems
