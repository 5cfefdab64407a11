pub mod Reading
pub mod Testing
