pub mod Runs
pub mod Pages
pub mod Digits
pub mod Answers
