pub mod Texts
pub mod SetLaws
