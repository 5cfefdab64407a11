mod Ends
mod Parts
pub mod Told
pub mod Counts
pub mod ExitCodes
pub mod Answering
pub mod Named
pub mod OneJudgments
pub mod Margins
pub mod ByText
