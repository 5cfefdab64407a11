pub mod Holding
pub mod Over
pub mod RootLemmas
pub mod CutHeights
mod Stored
mod Insides
mod Surfaces
mod HoldingCerts
mod OverCerts
mod CutCerts
mod InsideCerts
mod Resizing
