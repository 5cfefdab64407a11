pub mod Kept
pub mod FaceLemmas
mod Gathered
