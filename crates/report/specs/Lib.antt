pub mod Report
pub mod Telling
