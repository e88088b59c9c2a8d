pub mod Sizes
pub mod Lines
pub mod Single
pub mod Called
