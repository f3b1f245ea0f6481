pub mod Tables
pub mod Placing
