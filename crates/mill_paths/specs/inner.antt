-- What private functions and proofs cite alone: no clause of a public call leads here.
pub mod Levels
pub mod Paths
pub mod Rows
