pub mod DcNetworks
pub mod Laws
pub mod Rounding
