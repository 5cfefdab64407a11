pub mod Set
pub mod Requests
