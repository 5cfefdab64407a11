pub mod Numbers
pub mod Profile
pub mod Said
pub mod MachineTable
pub mod MachineTakes
pub mod MachineSaid
pub mod Bounds
pub mod inner
