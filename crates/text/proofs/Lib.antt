pub mod FirstLine
pub mod Statements
pub mod Reached
pub mod Unique
pub mod Decoding
pub mod Back
pub mod Whole
