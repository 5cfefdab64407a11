pub mod Listings
pub mod Findings
pub mod Columns
pub mod Laws
pub mod inner
