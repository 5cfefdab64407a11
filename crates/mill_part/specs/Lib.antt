pub mod Parts
pub mod Tops
pub mod inner
