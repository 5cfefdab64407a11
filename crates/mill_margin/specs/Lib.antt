pub mod Margins
pub mod Laws
pub mod Nearby
