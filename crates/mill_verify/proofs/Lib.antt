pub mod Mounted
mod ReadLemmas
mod StockLemmas
mod Shown
mod Turned
mod Ranges
mod Depths
mod Most
mod Remaining
mod Stored
pub mod Unique
mod FaceCerts
mod Faces
mod Hits
pub mod Obstacles
mod Safe
mod Plain
pub mod TextTips
mod Between
mod Accepted
mod Scanning
mod Sharing
mod Gathered
mod Failed
mod SameTests
mod Starts
mod StartCerts
mod Coming
mod Filed
mod Counted
mod SafeFiles
mod Listing
mod UniqueFiles
mod Tested
mod Named
