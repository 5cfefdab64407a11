pub mod States
pub mod Steps
pub mod Laws
pub mod Kept
