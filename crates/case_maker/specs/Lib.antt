pub mod Kirchhoff
pub mod Laws
pub mod Rings
