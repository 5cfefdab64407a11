pub mod Canonical
pub mod DigitRuns
pub mod Powers
pub mod RoundTrip
pub mod ShortForms
