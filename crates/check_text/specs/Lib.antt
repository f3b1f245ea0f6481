pub mod Errors
pub mod Cutting
pub mod Stepping
pub mod Answers
pub mod Replies
