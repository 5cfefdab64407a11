mod Strips
mod Counts
mod RangeLemmas
