use mathlib.Core.Path.{sym, ◌∙◌}
use Rattle.sets.proofs.Loops.{keys_next, keys_not_after, keys_not, keys_end}
use Rattle.sets.proofs.keys_meet.Goals as goal
use Rattle.sets.proofs.keys_meet.Goals.{then-key-last-via-then-key-last, then-key-last-via-else-key-last+then-not-is_key}

pub returns-then-key-last : goal.returns-then-key-last
returns-then-key-last c =
    elim c.then-key-last.branch [
      | then-key-last-via-then-key-last w ↦ keys_not_after _ _ _ c.loop-key-test.true w.if-key-last.true c.loop-key.invariant
      | then-key-last-via-else-key-last+then-not-is_key w ↦ keys_not _ _ _ c.loop-key-test.true w.if-key-last.false (sym w.is_key.ensures ∙ w.if-not-is_key.true) c.loop-key.invariant
    ]

pub loop-key-preserved : goal.loop-key-preserved
loop-key-preserved c = keys_next _ _ _ c.loop-key-test.true c.if-key-last.false (sym c.is_key.ensures ∙ c.if-not-is_key.false) c.loop-key.invariant

pub returns : goal.returns
returns c = keys_end _ _ _ c.loop-key-test.false c.loop-key.invariant
