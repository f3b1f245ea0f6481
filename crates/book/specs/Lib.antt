pub mod Agreeing
pub mod Books
