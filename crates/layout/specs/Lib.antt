-- The sheet, and how its bytes are read, number by number.
pub mod Sheet
pub mod Parse
