pub mod Sets
pub mod Means
pub mod Causal
