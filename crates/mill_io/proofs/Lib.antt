pub mod Written
pub mod Read
pub mod Held
mod Walks
