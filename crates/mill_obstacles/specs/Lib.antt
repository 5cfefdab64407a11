pub mod Faces
pub mod Laws
