-- What private functions and proofs cite alone: no clause of a public call leads here.
pub mod Near
pub mod Rows
pub mod Solids
pub mod Spindles
