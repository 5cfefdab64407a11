pub mod Members
pub mod Events
pub mod Stays
pub mod Laws
pub mod Leasts
pub mod Able
pub mod Starts
