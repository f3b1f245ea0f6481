pub mod Counts
pub mod Means
pub mod Longest
