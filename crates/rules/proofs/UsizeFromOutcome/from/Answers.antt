-- An outcome is converted to its number, variant by variant.
use mathlib.Core.Path.{sym, ap}
use Rattle.rules.specs.Outcomes.{number_of}
use Rattle.rules.proofs.UsizeFromOutcome.from.Goals as goal

pub returns-in-Done : goal.returns-in-Done
unfolding number_of
returns-in-Done c = sym (ap number_of c.in-Done.is)

pub returns-in-NotABlock : goal.returns-in-NotABlock
unfolding number_of
returns-in-NotABlock c = sym (ap number_of c.in-NotABlock.is)

pub returns-in-CheckFails : goal.returns-in-CheckFails
unfolding number_of
returns-in-CheckFails c = sym (ap number_of c.in-CheckFails.is)

pub returns-in-WrongFig : goal.returns-in-WrongFig
unfolding number_of
returns-in-WrongFig c = sym (ap number_of c.in-WrongFig.is)

pub returns-in-WrongField : goal.returns-in-WrongField
unfolding number_of
returns-in-WrongField c = sym (ap number_of c.in-WrongField.is)

pub returns-in-WrongValue : goal.returns-in-WrongValue
unfolding number_of
returns-in-WrongValue c = sym (ap number_of c.in-WrongValue.is)

pub returns-in-EmptyStart : goal.returns-in-EmptyStart
unfolding number_of
returns-in-EmptyStart c = sym (ap number_of c.in-EmptyStart.is)

pub returns-in-NotHeld : goal.returns-in-NotHeld
unfolding number_of
returns-in-NotHeld c = sym (ap number_of c.in-NotHeld.is)

pub returns-in-ShortBuffer : goal.returns-in-ShortBuffer
unfolding number_of
returns-in-ShortBuffer c = sym (ap number_of c.in-ShortBuffer.is)

pub returns-in-WrongTable : goal.returns-in-WrongTable
unfolding number_of
returns-in-WrongTable c = sym (ap number_of c.in-WrongTable.is)

pub returns-in-NotASheet : goal.returns-in-NotASheet
unfolding number_of
returns-in-NotASheet c = sym (ap number_of c.in-NotASheet.is)

pub returns-in-NotShown : goal.returns-in-NotShown
unfolding number_of
returns-in-NotShown c = sym (ap number_of c.in-NotShown.is)

pub returns-in-TooMuch : goal.returns-in-TooMuch
unfolding number_of
returns-in-TooMuch c = sym (ap number_of c.in-TooMuch.is)

pub returns-in-TooManyPieces : goal.returns-in-TooManyPieces
unfolding number_of
returns-in-TooManyPieces c = sym (ap number_of c.in-TooManyPieces.is)

pub returns-in-BadCode : goal.returns-in-BadCode
unfolding number_of
returns-in-BadCode c = sym (ap number_of c.in-BadCode.is)
