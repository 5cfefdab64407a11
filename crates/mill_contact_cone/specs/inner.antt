-- What private functions and proofs cite alone: no clause of a public call leads here.
pub mod Clears
pub mod Positions
pub mod Quadratics
pub mod Widths
