pub mod Faces
pub mod FirstPoints
pub mod Laws
