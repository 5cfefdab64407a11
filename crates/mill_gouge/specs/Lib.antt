pub mod Gouges
pub mod Lifts
pub mod Laws
pub mod inner
