-- `table::held_at` meets its contract: the key stands at its place or nowhere.
use mathlib.Core.Path.{sym, ◌∙◌}
use Rattle.table.proofs.GivenLaws.{held_where}
use Rattle.table.proofs.held_at.Goals as goal

pub returns-then-not-stands_at-clause-held : goal.returns-then-not-stands_at-clause-held
returns-then-not-stands_at-clause-held c = (held_where _ _ _ c.place_of-at.ensures).1 (sym c.stands_at.ensures ∙ c.if-not-stands_at.true)

pub returns-clause-held : goal.returns-clause-held
returns-clause-held c = (held_where _ _ _ c.place_of-at.ensures).0 (sym c.stands_at.ensures ∙ c.if-not-stands_at.false)
