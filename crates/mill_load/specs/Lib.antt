pub mod Setup
pub mod Programs
pub mod Places
pub mod Loads
pub mod inner
