-- The laws above the definitions of specs/. In order: turns of loops; entries by their places; what is read off stored sets, and
-- that it is enough; a key's place; what a block changes; what is shown; one stored form stores one content.
pub mod Loops
pub mod Entries
pub mod SetsLaws
pub mod PlaceLaws
pub mod StoreLaws
pub mod ShownLaws
pub mod Contents
