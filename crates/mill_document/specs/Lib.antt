pub mod Documents
pub mod Details
pub mod inner
