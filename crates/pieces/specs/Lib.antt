pub mod Air
pub mod Before
