-- What private functions and proofs cite alone: no clause of a public call leads here.
pub mod Known
pub mod Probes
pub mod Pushers
pub mod Reaches
pub mod Solids
pub mod Unions
pub mod Windows
