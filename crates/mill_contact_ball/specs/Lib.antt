pub mod Centres
pub mod inner
