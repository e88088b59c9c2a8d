-- The laws above the definitions of specs/. In order: small helpers; lists in arrays, and with one value more or less; the starred
-- examples; the laws of collecting over any family, its notes, its runs, two tables of which one leads the other, fields of a held key,
-- two receptions of which one is better, its table rules, a set that is sent in pieces, and entries by their places; the table rules of
-- linkage taken apart; the fields of a taken block, where they stand, and the linkage sets; numbers; the first fault of a refused block; what R-3
-- left as it was.
pub mod Basics
pub mod Arrays
pub mod Shifts
pub mod Examples
pub mod FamilyLaws
pub mod Notes
pub mod Runs
pub mod Leads
pub mod HeldKeys
pub mod Better
pub mod FamilyRules
pub mod Sent
pub mod Entries
pub mod TableRules
pub mod Taken
pub mod Places
pub mod LinkageLaws
pub mod Numbers
pub mod FirstFault
pub mod Before
