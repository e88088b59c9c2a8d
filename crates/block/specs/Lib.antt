-- What the answers of this crate mean by the rules.
pub mod Judged
pub mod Faults
