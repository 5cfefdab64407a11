-- What private functions and proofs cite alone: no clause of a public call leads here.
pub mod Firsts
pub mod Readiness
pub mod Pieces
pub mod Failures
pub mod Listed
pub mod Reaches
