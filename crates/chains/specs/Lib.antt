pub mod Chained
pub mod Greatest
pub mod Sourced
