-- The laws that the proofs of the functions lean on: writing (Groups, Writes), loading (Steps, Numbers, Tests, Heads, Pairs, Sets, Loads).
pub mod Groups
pub mod Writes
pub mod Steps
pub mod Numbers
pub mod Tests
pub mod Heads
pub mod Pairs
pub mod Sets
pub mod Loads
