-- `report::words` meets its contract: an answer by its number.
use mathlib.Core.Path.{sym, ap, ◌∙◌}
use Prim.Native.Nat.{ℕ}
use mathlib.Core.List.{List}
use Rattle.rules.specs.declared.Outcome.{Outcome}
use Rattle.rules.specs.Outcomes.{number_of}
use Rattle.report.specs.Report.{words_of}
use Rattle.report.proofs.Called.{no_words}
use Rattle.report.proofs.words.Goals as goal

pub returns-in-CheckFails : goal.returns-in-CheckFails
unfolding words_of number_of
returns-in-CheckFails c = sym (ap (λ (o : Outcome). words_of (number_of o)) c.in-CheckFails.is)

pub returns-in-WrongFig : goal.returns-in-WrongFig
unfolding words_of number_of
returns-in-WrongFig c = sym (ap (λ (o : Outcome). words_of (number_of o)) c.in-WrongFig.is)

pub returns-in-WrongField : goal.returns-in-WrongField
unfolding words_of number_of
returns-in-WrongField c = sym (ap (λ (o : Outcome). words_of (number_of o)) c.in-WrongField.is)

pub returns-in-WrongValue : goal.returns-in-WrongValue
unfolding words_of number_of
returns-in-WrongValue c = sym (ap (λ (o : Outcome). words_of (number_of o)) c.in-WrongValue.is)

pub returns-in-EmptyStart : goal.returns-in-EmptyStart
unfolding words_of number_of
returns-in-EmptyStart c = sym (ap (λ (o : Outcome). words_of (number_of o)) c.in-EmptyStart.is)

pub returns-in_default : goal.returns-in_default
returns-in_default c = let d = c.in_default in sym (no_words c.args.outcome d.not-CheckFails d.not-WrongFig d.not-WrongField d.not-WrongValue d.not-EmptyStart)
