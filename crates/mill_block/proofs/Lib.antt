mod AlikeLemmas
mod SettledLemmas
mod PlainLemmas
mod QuickLemmas
mod PercentLemmas
mod RealLemmas
pub mod RealLines
mod RiseCerts
pub mod RiseLemmas
pub mod KeptLemmas
pub mod NamingLemmas
pub mod FinerLemmas
pub mod HoleLemmas
pub mod TextLemmas
mod TextWays
pub mod TextHoles
mod TextArcs
mod TextLines
pub mod TextKept
pub mod ArcNumbers
pub mod ArcMoves
pub mod ArcEnds
