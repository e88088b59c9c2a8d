pub mod Listing
pub mod Confirmed
pub mod Lines
