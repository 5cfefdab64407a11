pub mod Faults
pub mod Facets
pub mod Parts
pub mod Written
pub mod inner
