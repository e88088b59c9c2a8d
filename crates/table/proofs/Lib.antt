-- The laws above the definitions of specs/.
pub mod Copies
pub mod GivenLaws
