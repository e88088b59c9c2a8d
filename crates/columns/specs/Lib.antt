pub mod Columns
pub mod Cells
