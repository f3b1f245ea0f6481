pub mod Codes
pub mod Words
pub mod Lists
pub mod OneRow
