pub mod Integers
pub mod Ring
pub mod Cert
pub mod Range
pub mod Machine
mod DivisionCerts
pub mod Divisions
pub mod RootLemmas
pub mod Squares
pub mod ExitCerts
pub mod Exit
pub mod Ranges
pub mod NodeLemmas
pub mod SolidLemmas
pub mod Extremes
pub mod Tips
