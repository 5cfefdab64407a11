pub mod Cones
pub mod inner
