pub mod Lines
pub mod Whole
pub mod Columns
pub mod Room
