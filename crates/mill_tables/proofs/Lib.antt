pub mod Tops
mod Cuts
