use Prim.Native.Nat.{ℕ}
use mathlib.Core.Path.{◌≡◌, sym, ap, ap₂, ◌∙◌}
use mathlib.Core.Logic.{◌⊎◌, inl, inr}
use mathlib.Core.List.{List}
use lib.ListN.{length}
use Rattle.rules.specs.Collecting.{key_width}
use Rattle.lists.specs.Stored.{paired}
use Rattle.text.specs.Listing.{pairs_text}
use Rattle.text.proofs.Texts.{paired_next, paired_end}
use Rattle.out.proofs.Pages.{going_start, going_on, going_as, going_end}
use Rattle.text.proofs.put_pairs.Goals as goal

pub loop-kind-init : goal.loop-kind-init
loop-kind-init c =
    let whole = c.into_iter-kind-iterator.ensures.into_iter_gives in
    let kinds = ap (λ it. it.a.rest.now) whole ∙ ap (λ it. it.rest.now) c.zip-kind-items.ensures.first ∙ c.iter.ensures.rest in
    let numbers = ap (λ it. it.b.rest.now) whole ∙ c.zip-kind-items.ensures.second.0 in
    going_as (sym (ap₂ (λ (ks ns : List ℕ). pairs_text (key_width c.args.key) (paired ks ns)) kinds numbers)) (going_start _ _)

pub loop-kind-preserved : goal.loop-kind-preserved
unfolding pairs_text
loop-kind-preserved c =
    let steps = c.in-Some.ensures.steps in
    going_on (ap (pairs_text (key_width c.args.key)) (paired_next steps.0 steps.1)) c.loop-kind.invariant c.put_pair.ensures

pub returns : goal.returns
unfolding pairs_text
returns c =
    let at = c.loop-kind.kind-iterator in
    let none : (length at.a.rest.now ≡ 0) ⊎ (length at.b.rest.now ≡ 0) = elim c.in-None.ensures.steps [ inl h ↦ inl h.1.0 | inr h ↦ inr h.1.0 ] in
    going_end (ap (pairs_text (key_width c.args.key)) (paired_end at.a.rest.now at.b.rest.now none)) c.loop-kind.invariant
