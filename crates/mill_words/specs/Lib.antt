pub mod Marks
pub mod Words
pub mod Lines
pub mod Plain
pub mod inner
