pub mod Put
pub mod Page
pub mod Text
pub mod Writing
pub mod Answer
