pub mod Reading
pub mod Loading
