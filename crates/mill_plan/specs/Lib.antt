pub mod Faults
pub mod Plans
pub mod Laws
pub mod inner
