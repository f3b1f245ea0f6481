pub mod Unions
pub mod Chained
