-- The laws of the block check.
pub mod Bits
pub mod Sizes
pub mod Register
