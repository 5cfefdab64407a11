-- What private functions and proofs cite.
pub mod Steps
