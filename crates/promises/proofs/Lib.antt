-- What the contracts of the public functions promise. The front page is Demand1.antt, Demand2.antt and Demand3.antt; the others are in order:
-- the contracts, each with a name, and that the functions are proved to meet them; that a contract admits one answer; which outcomes there are
-- and what each refusal leaves; that the table rules are kept; the same of what is written, and what follows of the buffer; what is special to the
-- blocks for air and to the sheet; the first number from another ensemble (document 02, R-3); better reception, and why it needs its premises;
-- examples; runs of calls, and their laws; the numbers of blocks (R-9).
pub mod Contracts
pub mod Proved
pub mod Single
pub mod Answers
pub mod Kept
pub mod Writing
pub mod Written
pub mod Buffers
pub mod AirWritten
pub mod SheetWritten
pub mod FirstNumber
pub mod Totals
pub mod Better
pub mod Needed
pub mod Examples
pub mod Calls
pub mod Receptions
pub mod CallLaws
pub mod Numbers
pub mod Demand1
pub mod Demand2
pub mod CutRuns
pub mod Demand3
