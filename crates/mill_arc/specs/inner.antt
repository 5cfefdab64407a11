-- What private functions and proofs cite alone: no clause of a public call leads here.
pub mod Nodes
pub mod Lists
