pub mod Drops
pub mod Maps
pub mod Paths
pub mod Unique
pub mod inner
