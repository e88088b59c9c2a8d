-- The laws above specs/: a set cut into pieces; a piece as a block, which is taken again; the whole output read back; what R-3 left as it was.
pub mod Cutting
pub mod BlockBack
pub mod ReadBack
pub mod Before
