-- `reading::confirmed_by` meets its contract: at the note of a showing the block's number, at every other the one before.
use mathlib.Core.Path.{sym, ◌∙◌}
use Rattle.reading.specs.Steps.{confirmed_by}
use Rattle.reading.proofs.SameLaws.{same_showing}
use Rattle.reading.proofs.confirmed_by.Goals as goal

pub returns-then-eq : goal.returns-then-eq
unfolding confirmed_by
returns-then-eq c = rw (sym (same_showing c.args.note) ∙ sym c.eq.ensures ∙ c.if-eq.true)

pub returns-else-eq : goal.returns-else-eq
unfolding confirmed_by
returns-else-eq c = rw (sym (same_showing c.args.note) ∙ sym c.eq.ensures ∙ c.if-eq.false)
