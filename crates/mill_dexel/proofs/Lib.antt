mod FarCerts
mod InnerCerts
mod Inner
mod Places
mod Reaches
mod Chords
mod CutRows
mod EndCerts
mod Again
mod Beyond
mod LineCerts
mod Lines
mod Trials
mod UncutRows
pub mod Stops
pub mod RunLaws
pub mod Blocks
mod BandLists
mod Chunks
pub mod TopLaws
pub mod RowLaws
pub mod Removal
mod LastCerts
mod Ends
pub mod Cleared
pub mod Limits
pub mod SameStocks
pub mod Shows
mod StockLaws
pub mod Ranges
mod Splits
pub mod TestedAs
