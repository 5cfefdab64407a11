pub mod Works
pub mod Seats
pub mod Kept
pub mod Rules
pub mod Laws
pub mod Shows
pub mod Steps
pub mod inner
