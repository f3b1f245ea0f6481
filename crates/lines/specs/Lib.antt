pub mod Number
pub mod Tokens
pub mod Grammar
