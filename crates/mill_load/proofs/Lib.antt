pub mod Reading
pub mod Programs
pub mod Asked
pub mod Bending
