pub mod Asked
pub mod Fibers
pub mod Judged
pub mod Lattices
pub mod Levels
pub mod Plans
pub mod Texts
pub mod inner
