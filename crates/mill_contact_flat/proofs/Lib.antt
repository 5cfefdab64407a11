pub mod CornerCerts
pub mod Touched
