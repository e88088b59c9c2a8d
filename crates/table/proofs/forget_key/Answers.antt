-- `table::forget_key` meets its contract: the key stands at its place or nowhere, and shutting its place forgets it.
use mathlib.Core.Path.{refl, sym, ◌∙◌}
use Rattle.table.proofs.GivenLaws.{given_wrong, given_right, tested_short, held_some, held_none, forgets_missing, forgets_held}
use Rattle.table.proofs.forget_key.Goals as goal

pub returns-then-not-meets : goal.returns-then-not-meets
returns-then-not-meets c = given_wrong c.meets.ensures c.if-not-meets.true refl

pub held_at-requires : goal.held_at-requires
held_at-requires c = tested_short _ c.meets.ensures c.if-not-meets.false

pub returns-in_default : goal.returns-in_default
returns-in_default c = given_right c.meets.ensures c.if-not-meets.false (λ d m e. forgets_missing _ d m e _ (held_none _ d m e _ (sym c.held_at.ensures.held ∙ c.in_default.is)))

pub returns : goal.returns
returns c = given_right c.meets.ensures c.if-not-meets.false (λ d m e.
    let h = held_some _ d m e _ _ (sym c.held_at.ensures.held ∙ c.in-Some.is) in
    forgets_held _ d m e _ _ h.0 h.1 _ c.shut_at-left.ensures _ c.without-rest.ensures _ c.of.ensures)
