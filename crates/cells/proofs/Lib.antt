pub mod Entries
pub mod Arrays
