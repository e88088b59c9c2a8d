-- The laws above the definitions of specs/: Numbers and Identifiers are on plain lists, Laws is what other crates use.
pub mod Numbers
pub mod Identifiers
pub mod Laws
