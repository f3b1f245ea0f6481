pub mod Offers
pub mod Square
pub mod Running
