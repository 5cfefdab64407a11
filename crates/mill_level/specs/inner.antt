-- What private functions and proofs cite alone: no clause of a public call leads here.
pub mod Cuts
pub mod Fibers
pub mod Maps
pub mod Squares
pub mod Trails
pub mod Ways
