-- What private functions and proofs cite alone: no clause of a public call leads here.
pub mod Groups
pub mod Ranged
pub mod Relations
pub mod Facts
