-- `table::copy_out` meets its contract: the key stands at its place or nowhere, and what is handed out is the stored set.
use native.Mathlib.Omega.{arith}
use mathlib.Core.Path.{refl, sym, ◌∙◌}
use Rattle.table.specs.Answers.{copied_as}
use Rattle.table.proofs.GivenLaws.{given_wrong, given_right, tested_short, held_some, held_none, stands_shown, copies_missing, copies_held}
use Rattle.table.proofs.copy_out.Goals as goal

pub returns-then-not-meets : goal.returns-then-not-meets
unfolding copied_as
returns-then-not-meets c = given_wrong c.meets.ensures c.if-not-meets.true refl

pub held_at-requires : goal.held_at-requires
held_at-requires c = tested_short _ c.meets.ensures c.if-not-meets.false

pub returns-in_default : goal.returns-in_default
unfolding copied_as
returns-in_default c =
    given_right c.meets.ensures c.if-not-meets.false (λ d m e. copies_missing _ d m e _ (held_none _ d m e _ (sym c.held_at.ensures.held ∙ c.in_default.is)) _ _)

pub copy_set-requires : goal.copy_set-requires
copy_set-requires c =
    let r = stands_shown c.args.table c.meets.ensures c.if-not-meets.false _ _ (sym c.held_at.ensures.held ∙ c.in-Some.is) in
    (omega (arith, r.short, r.numbers_long), omega (arith, r.short, r.kinds_long))

pub returns : goal.returns
returns c =
    given_right c.meets.ensures c.if-not-meets.false (λ d m e.
    let h = held_some _ d m e _ _ (sym c.held_at.ensures.held ∙ c.in-Some.is) in
    c.copy_set.ensures ∙ copies_held _ d m e _ _ h.0 h.1 _ _)
