-- What private functions and proofs cite alone: no clause of a public call leads here.
pub mod Sources
pub mod Loads
pub mod Lifts
pub mod Lists
pub mod Judged
pub mod Prints
