-- The laws above specs/: bytes that stand at a place; what a sheet says of its table; reading accepts exactly the sheets.
pub mod Standing
pub mod Laws
pub mod ParseLaws
