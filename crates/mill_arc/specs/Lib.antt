pub mod Vectors
pub mod Arcs
pub mod Chords
pub mod Places
pub mod Sectors
pub mod Rings
pub mod Turns
pub mod inner
