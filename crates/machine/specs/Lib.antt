pub mod Machines
pub mod Local
pub mod Chains
