-- What private functions and proofs cite alone: no clause of a public call leads here.
pub mod Starts
pub mod Plays
pub mod Turns
pub mod Closings
