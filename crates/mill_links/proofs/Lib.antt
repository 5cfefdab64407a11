pub mod Kept
mod Ways
mod Points
mod Overs
mod Pecks
pub mod Joining
mod Plunging
mod Ranged
mod Straight
mod ToolLemmas
mod Made
pub mod Going
pub mod Steps
mod Stages
pub mod Heads
