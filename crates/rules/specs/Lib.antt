-- Document 01 as definitions, a module for each of its sections, in its order; what demand 3 speaks of, over a family; what numbers of blocks mean; how a list stands
-- in an array; and what document 01 said before document 02's R-3. What is written for air, on a sheet and as text stands in the crates
-- pieces, layout and text.
pub mod Block
pub mod Field
pub mod Family
pub mod Collecting
pub mod Outcomes
pub mod Receptions
pub mod Numbers
pub mod Arrays
pub mod Before
