mod ReadLemmas
mod Looking
mod BothSolids
mod RisingCerts
pub mod Rising
mod Lows
pub mod Leasts
mod Clearing
mod Rooms
mod Bisecting
