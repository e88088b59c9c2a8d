-- `totals::Totals::exchanged` meets its contract.
use mathlib.Core.Path.{refl, sym, ap, ◌∙◌}
use Rattle.totals.specs.declared.Totals.{Totals}
use Rattle.totals.specs.Kept.{with_set, exchanged_set}
use Rattle.totals.proofs.Totals.exchanged.Goals as goal

pub returns-then-is_alike : goal.returns-then-is_alike
unfolding exchanged_set
returns-then-is_alike c = rw (sym c.is_alike.ensures ∙ c.if-is_alike.true) refl

pub returns : goal.returns
unfolding exchanged_set
returns c =
    rw (sym c.is_alike.ensures ∙ c.if-is_alike.false)
    (c.with.ensures ∙ ap (λ (t : Totals). with_set t c.args.len c.args.on) c.without-rest.ensures)
