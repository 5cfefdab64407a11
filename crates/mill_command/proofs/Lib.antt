mod Facts
pub mod Faultless
pub mod Takes
pub mod Taken
pub mod Numbers
