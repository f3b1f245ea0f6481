pub mod Turns
pub mod Verdicts
pub mod Keeping
pub mod Facts
pub mod Steps
pub mod OneVerdict
pub mod Shown
