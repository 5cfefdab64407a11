pub mod Lattices
pub mod Limits
pub mod Visits
pub mod RowPaths
pub mod Plans
pub mod Unique
pub mod inner
