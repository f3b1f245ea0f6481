pub mod Abilities
pub mod Circuits
pub mod Plans
pub mod Laying
