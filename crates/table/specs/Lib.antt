pub mod Stored
pub mod Answers
