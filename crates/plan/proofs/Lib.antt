pub mod Circuits
pub mod Laying
pub mod Laid
pub mod Searching
