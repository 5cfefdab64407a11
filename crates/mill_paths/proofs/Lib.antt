mod Rows
mod ToolLemmas
pub mod Changes
pub mod Adding
pub mod PathLemmas
pub mod ZigzagLemmas
pub mod LayerLemmas
pub mod RowVisits
pub mod RowPoints
pub mod VisitLemmas
pub mod OutlineLemmas
pub mod FaultLemmas
pub mod Uniqueness
mod Elsewhere
pub mod Lengths
pub mod Rounds
mod Many
mod Kept
pub mod Gathered
mod Along
mod Finishing
