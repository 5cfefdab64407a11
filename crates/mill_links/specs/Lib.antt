pub mod Links
pub mod Tours
pub mod Safety
pub mod inner
