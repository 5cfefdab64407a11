pub mod Fibers
pub mod Runs
pub mod Stretches
pub mod Touches
pub mod inner
