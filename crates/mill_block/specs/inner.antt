-- What private functions and proofs cite alone: no clause of a public call leads here.
pub mod Bounds
pub mod PlainMoves
pub mod Finers
pub mod Sweeps
