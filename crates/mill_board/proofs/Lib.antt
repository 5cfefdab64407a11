mod Sums
mod Views
pub mod Listed
pub mod Failing
mod Opening
mod Drawing
mod Drew
mod Putting
mod Lowering
mod Splitting
mod Closing
pub mod Outcomes
mod Showing
mod Stepping
mod Dividing
mod Holding
