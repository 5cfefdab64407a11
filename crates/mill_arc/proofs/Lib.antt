mod Roots
pub mod Decided
pub mod Soundness
mod Stored
mod NodeCerts
mod TurnCerts
mod RingCerts
pub mod Nearest
pub mod Nodes
pub mod Middles
pub mod Halving
pub mod Parts
pub mod Parted
pub mod Points
pub mod Nearness
pub mod Rounding
pub mod Deep
pub mod Moments
pub mod Helixes
mod SignCerts
pub mod Counts
pub mod Signs
pub mod Quads
pub mod Sides
pub mod Insides
pub mod Turning
pub mod Evenness
pub mod Heights
