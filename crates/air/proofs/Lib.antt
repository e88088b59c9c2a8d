-- The laws above specs/, in the order in which they build on each other.
pub mod Cuts
pub mod Blocks
pub mod Sets
pub mod Output
