pub mod Words
pub mod Reports
pub mod Outcomes
pub mod Headline
pub mod Laws
pub mod inner
