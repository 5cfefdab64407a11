mod MarginCerts
mod NearbyCerts
pub mod Sizing
pub mod Offsets
pub mod Growing
pub mod Nesting
mod Boxes
pub mod Nearby
