-- A note is converted to its number, variant by variant.
use mathlib.Core.Path.{sym, ap}
use Rattle.rules.specs.Outcomes.{note_number}
use Rattle.rules.proofs.UsizeFromNote.from.Goals as goal

pub returns-in-Opened : goal.returns-in-Opened
unfolding note_number
returns-in-Opened c = sym (ap note_number c.in-Opened.is)

pub returns-in-ShownAndOpened : goal.returns-in-ShownAndOpened
unfolding note_number
returns-in-ShownAndOpened c = sym (ap note_number c.in-ShownAndOpened.is)

pub returns-in-Added : goal.returns-in-Added
unfolding note_number
returns-in-Added c = sym (ap note_number c.in-Added.is)

pub returns-in-NoOpenList : goal.returns-in-NoOpenList
unfolding note_number
returns-in-NoOpenList c = sym (ap note_number c.in-NoOpenList.is)

pub returns-in-Full : goal.returns-in-Full
unfolding note_number
returns-in-Full c = sym (ap note_number c.in-Full.is)

pub returns-in-TooLong : goal.returns-in-TooLong
unfolding note_number
returns-in-TooLong c = sym (ap note_number c.in-TooLong.is)

pub returns-in-StateOnly : goal.returns-in-StateOnly
unfolding note_number
returns-in-StateOnly c = sym (ap note_number c.in-StateOnly.is)

pub returns-in-UnknownKey : goal.returns-in-UnknownKey
unfolding note_number
returns-in-UnknownKey c = sym (ap note_number c.in-UnknownKey.is)

pub returns-in-Dropped : goal.returns-in-Dropped
unfolding note_number
returns-in-Dropped c = sym (ap note_number c.in-Dropped.is)
