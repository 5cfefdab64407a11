pub mod Faults
pub mod Raw
pub mod Tests
pub mod inner
