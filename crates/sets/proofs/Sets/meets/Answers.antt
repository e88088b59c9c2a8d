-- `sets::Sets::meets` meets its contract: each test reads off one of the facts that a stored table has, and together they are
-- enough.
use native.Mathlib.Omega.{arith}
use Prim.Native.Nat.{ℕ, ◌-◌}
use mathlib.Core.Path.{◌≡◌, refl, sym, ap, ◌∙◌}
use mathlib.Core.Bool.{Bool}
use mathlib.Core.List.{List}
use lib.ListN.{length, take, drop, length-drop}
use lib.Seq.{take_all}
use Rattle.sets.specs.Places.{all_off}
use Rattle.rules.specs.Collecting.{most_keys}
use Rattle.rules.proofs.Basics.{length_of_map}
use Rattle.lists.proofs.StoredLaws.{refuted, fails}
use Rattle.sets.proofs.SetsLaws.{stored_facts, facts_stored}
use borrow.Author.Rules.{rules}
use Rattle.sets.proofs.Sets.meets.Goals as goal

-- the given arrays have 32 places
arrays : (c : goal.After-none_from-2)
    → (length c.args.self.keys ≡ most_keys) × (length c.args.self.on ≡ most_keys) × (length c.args.self.confirmed ≡ most_keys)
    × (length c.args.self.shown ≡ most_keys) × (length c.args.self.draft ≡ most_keys)
arrays c = (search rules, search rules, search rules, search (length_of_map, rules), search (length_of_map, rules))

-- all that stands from a place on
rest_of : (on : List Bool) (n : ℕ) → take (length on - n) (drop n on) ≡ drop n on
rest_of on n = take_all (length on - n) (drop n on) (omega (arith, length-drop n on))

pub returns-then-count-gt-KEYS : goal.returns-then-count-gt-KEYS
returns-then-count-gt-KEYS c = refuted _ (λ s. omega (arith, (stored_facts _ s).short))

pub returns-then-not-keys_meet : goal.returns-then-not-keys_meet
returns-then-not-keys_meet c = refuted _ (λ s. fails c.keys_meet.ensures c.if-not-keys_meet.true (stored_facts _ s).keys_meet_law)

pub returns-then-not-all_zero : goal.returns-then-not-all_zero
returns-then-not-all_zero c = refuted _ (λ s. fails c.all_zero.ensures c.if-not-all_zero.true (stored_facts _ s).keys_end)

pub returns-then-not-all_off : goal.returns-then-not-all_off
returns-then-not-all_off c = refuted _ (λ s. fails (c.all_off.ensures ∙ ap all_off (rest_of c.args.self.on c.args.self.count)) c.if-not-all_off.true (stored_facts _ s).on_end)

pub returns-then-not-lists_meet : goal.returns-then-not-lists_meet
returns-then-not-lists_meet c = refuted _ (λ s. fails refl c.if-not-lists_meet.true (c.lists_meet.ensures.complete (stored_facts _ s).shown_hold))

pub returns-then-not-none_from : goal.returns-then-not-none_from
returns-then-not-none_from c = refuted _ (λ s. fails refl c.if-not-none_from.true (c.none_from.ensures.complete (stored_facts _ s).shown_end))

pub returns-then-not-numbers_meet : goal.returns-then-not-numbers_meet
returns-then-not-numbers_meet c = refuted _ (λ s. fails refl c.if-not-numbers_meet.true (c.numbers_meet.ensures.complete (stored_facts _ s).numbers_hold))

pub returns-then-not-lists_meet-2 : goal.returns-then-not-lists_meet-2
returns-then-not-lists_meet-2 c = refuted _ (λ s. fails refl c.if-not-lists_meet-2.true (c.lists_meet-2.ensures.complete (stored_facts _ s).draft_hold))

pub returns : goal.returns
returns c =
    let long = arrays c in
    record {
      sound = λ e. facts_stored _
          (record { short = c.if-count-gt-KEYS.false; keys_meet_law = sym c.keys_meet.ensures ∙ c.if-not-keys_meet.false; keys_end = sym c.all_zero.ensures ∙ c.if-not-all_zero.false; on_end = sym (c.all_off.ensures ∙ ap all_off (rest_of c.args.self.on c.args.self.count)) ∙ c.if-not-all_off.false; shown_hold = c.lists_meet.ensures.sound c.if-not-lists_meet.false; shown_end = c.none_from.ensures.sound c.if-not-none_from.false; numbers_hold = c.numbers_meet.ensures.sound c.if-not-numbers_meet.false; draft_hold = c.lists_meet-2.ensures.sound c.if-not-lists_meet-2.false; draft_end = c.none_from-2.ensures.sound e }) long.0 long.1 long.2 long.3 long.4;
      complete = λ s. c.none_from-2.ensures.complete (stored_facts _ s).draft_end;
    }
