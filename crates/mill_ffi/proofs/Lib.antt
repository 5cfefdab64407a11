pub mod Accepted
pub mod Chains
pub mod Fibers
pub mod Nodes
pub mod Setups
pub mod Written
