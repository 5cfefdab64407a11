pub mod SaidLemmas
mod TakesLemmas
pub mod ToldLemmas
pub mod TextFits
