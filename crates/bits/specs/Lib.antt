pub mod Flips
pub mod Means
