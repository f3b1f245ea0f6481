pub mod Reading
pub mod Writing
pub mod Cutting
pub mod Steps
pub mod Lexing
