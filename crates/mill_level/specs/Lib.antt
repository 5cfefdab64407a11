pub mod Grids
pub mod Joins
pub mod Crossings
pub mod Chains
pub mod Waterlines
pub mod inner
