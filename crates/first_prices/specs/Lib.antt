pub mod FirstCaps
pub mod Laws
