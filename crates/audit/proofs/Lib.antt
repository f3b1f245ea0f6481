pub mod Playing
pub mod Worth
pub mod Held
