pub mod Offsets
pub mod Roots
pub mod Widths
