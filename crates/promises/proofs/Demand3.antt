-- Better reception never contradicts worse (document 00, demand 3). Below, of calls, in order: the notes; what copy_out then gives, its
-- number among it; that copy_out then gives a set.
use Prim.Native.Nat.{ℕ, suc, ◌+◌, ◌≤◌, min}
use mathlib.Core.Path.{◌≡◌, sym, ap, ◌∙◌}
use mathlib.Core.List.{List}
use lib.ListN.{length, take, get_elem?}
use Rattle.rules.specs.Field.{Field, key_of}
use Rattle.rules.specs.Collecting.{Content, most_keys, most_ids, most_blocks}
use Rattle.rules.specs.Outcomes.{number_of}
use Rattle.promises.specs.Demand3.{Operation, Worse, key_count}
use Rattle.rules.proofs.Basics.{Every, every_take}
use Rattle.table.specs.declared.Table.{Table}
use Rattle.table.specs.declared.Copied.{Copied}
use Rattle.table.specs.declared.NotCopied.{NotCopied}
use Rattle.table.specs.Answers.{outcome_of}
use Rattle.std.specs.Prelude.{Result}
use Rattle.promises.proofs.Contracts.{told, confirmed_of, CopiesOut}
use Rattle.promises.proofs.Answers.{Stores}
use Rattle.promises.proofs.Calls.{Reply, Calls, OfBytes, NotedShown, FieldAt, after_all}
use Rattle.promises.proofs.CallLaws.{copy_shown, reply_shows, shows_reply}
use Rattle.promises.proofs.Receptions.{showing_after, same_operation}
use Rattle.promises.proofs.Numbers.{worse_counts}
use Rattle.promises.proofs.Demand2.{calls_hold, calls_counted}
use Rattle.promises.proofs.CutRuns.{cut_shows, copied_alike}
-- the promise of the rules themselves; why it needs its premises is in Needed.antt
pub use Rattle.promises.proofs.Better.{better_never_contradicts}

-- Two receptions of blocks of bytes, the second worse than the first, from one table that stores a content; the keys that are held in it
-- or started in the better reception are at most 32.
module _ (t : Table) (c : Content) (holds : Stores t c) (better worse : List Operation) (lacks : Worse better worse)
    (room : key_count c better ≤ most_keys) (bytes : Every OfBytes better) (others : Every OfBytes worse) where
  -- Where the worse run's reply i has note 2, shown and opened, at place j, operation i is the same in both, and the better run's reply i
  -- has note 2 at place j too, with outcome 0.
  pub better_calls_noted : {u v : Table} {rs qs : List Reply} → Calls t better rs u → Calls t worse qs v → (i j : ℕ) → NotedShown qs i j
      → (get_elem? better i ≡ get_elem? worse i) × (r : NotedShown rs i j) × (r.reply.outcome ≡ 0)
  better_calls_noted xs ys i j n =
      let x = reply_shows c worse i j (rw (calls_hold c holds others ys).1 at n) in
      let too = better_never_contradicts c better worse holds.0 lacks room i j x.0 x.1 in
      let r = rw (← (calls_hold c holds bytes xs).1) at (shows_reply c better i j x.0 too) in
      (same_operation lacks c i j x.0 x.1, r.0, r.1)

  -- Let both receptions be run up to operation i and with it. Where the worse run's reply i has note 2 at place j, copying the key of that
  -- field out of the table that one run left and of that which the other left gives the same answer, and the same in both buffers.
  pub better_calls_copied : {u v : Table} {rs qs : List Reply} (i j : ℕ) (f : Field)
      → Calls t (take (suc i) better) rs u → Calls t (take (suc i) worse) qs v → NotedShown qs i j → FieldAt worse i j f
      → (ns ks : List ℕ) (a b : Result Copied NotCopied) (na ka nb kb : List ℕ) → CopiesOut u (key_of f) ns ks a na ka → CopiesOut v (key_of f) ns ks b nb kb
      → (a ≡ b) × (na ≡ nb) × (ka ≡ kb)
  better_calls_copied = copied_alike t c holds better worse lacks room bytes others

  -- And the number of the block among them: it is the same, also where the count has stopped, and so are both tables' own counts, for a
  -- failing block is counted (document 02, R-9).
  pub better_calls_confirmed : {u v : Table} {rs qs : List Reply} (i j : ℕ) (f : Field)
      → Calls t (take (suc i) better) rs u → Calls t (take (suc i) worse) qs v → NotedShown qs i j → FieldAt worse i j f
      → (ns ks : List ℕ) (a b : Result Copied NotCopied) (na ka nb kb : List ℕ) → CopiesOut u (key_of f) ns ks a na ka → CopiesOut v (key_of f) ns ks b nb kb
      → (confirmed_of a ≡ confirmed_of b) × (u.blocks ≡ v.blocks)
  better_calls_confirmed {u = u} {v = v} i j f xs ys n x ns ks a b na ka nb kb p q = (
    ap confirmed_of (copied_alike t c holds better worse lacks room bytes others i j f xs ys n x ns ks a b na ka nb kb p q).0,
    calls_counted c holds (every_take OfBytes (suc i) better bytes) xs
        ∙ ap (λ (k : ℕ). min (t.blocks + k) most_blocks) (worse_counts (suc i) lacks)
        ∙ sym (calls_counted c holds (every_take OfBytes (suc i) worse others) ys),
  )

-- These answers give sets, and are no refusals: let any reception be run up to operation i and with it. Where reply i has note 2 at place
-- j, copying the key of that field out into buffers of at least 128 places has outcome 0.
pub noted_calls_copied : (t : Table) (c : Content) → Stores t c → (ops : List Operation) → Every OfBytes ops
    → {u : Table} {rs : List Reply} (i j : ℕ) (f : Field) → Calls t (take (suc i) ops) rs u → NotedShown rs i j → FieldAt ops i j f
    → (ns ks : List ℕ) (a : Result Copied NotCopied) (na ka : List ℕ) → most_ids ≤ length ns → most_ids ≤ length ks → CopiesOut u (key_of f) ns ks a na ka
    → number_of (told outcome_of a) ≡ 0
noted_calls_copied t c holds ops bytes i j f xs n x ns ks a na ka =
    let shown = cut_shows t c holds ops bytes i j f xs n x in
    copy_shown (key_of f) (after_all c (take (suc i) ops)) ns ks a na ka shown.0 (rw shown.3 at (showing_after c ops i j shown.1 shown.2))
