-- The laws above the definitions of specs/.
pub mod Walks
pub mod Verdicts
pub mod Storing
pub mod Loops
pub mod Answering
pub mod Meaning
