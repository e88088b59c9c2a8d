pub mod Kinds
pub mod Stored
pub mod Grown
