pub mod Playing
pub mod Counting
pub mod Depths
