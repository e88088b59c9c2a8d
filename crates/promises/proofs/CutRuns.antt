-- Runs of calls up to an operation and with it, for demand 3: which set the last reply speaks of, and that what is then copied out of the tables that two
-- receptions left is alike.
use Prim.Native.Nat.{ℕ, suc, ◌≤◌}
use mathlib.Core.Path.{◌≡◌}
use mathlib.Core.List.{List}
use lib.ListN.{take}
use Rattle.rules.specs.Field.{Field, key_of}
use Rattle.rules.specs.Collecting.{Content, Shown, most_keys}
use Rattle.promises.specs.Demand3.{Operation, Worse, ShowsAt, key_count}
use Rattle.rules.proofs.Basics.{Every, every_take}
use Rattle.table.specs.declared.Table.{Table}
use Rattle.table.specs.declared.Copied.{Copied}
use Rattle.table.specs.declared.NotCopied.{NotCopied}
use Rattle.std.specs.Prelude.{Result}
use Rattle.promises.proofs.Contracts.{CopiesOut}
use Rattle.promises.proofs.Answers.{Stores}
use Rattle.promises.proofs.Calls.{Reply, Calls, OfBytes, NotedShown, FieldAt, after_all}
use Rattle.promises.proofs.CallLaws.{copy_call, reply_shows}
use Rattle.promises.proofs.Receptions.{shown_key, shows_cut, better_found}
use Rattle.promises.proofs.Demand2.{calls_hold}

-- the set that note 2 at place j of the last reply of a cut run says came to be shown, with the key of that field
pub cut_shows : (t : Table) (c : Content) → Stores t c → (ops : List Operation) → Every OfBytes ops → {u : Table} {rs : List Reply}
    (i j : ℕ) (f : Field) → Calls t (take (suc i) ops) rs u → NotedShown rs i j → FieldAt ops i j f
    → Stores u (after_all c (take (suc i) ops)) × (s : Shown) × ShowsAt c ops i j s × (s.key ≡ key_of f)
cut_shows t c holds ops bytes i j f xs n x =
    let ends = calls_hold c holds (every_take OfBytes (suc i) ops bytes) xs in
    let last = reply_shows c (take (suc i) ops) i j (rw ends.1 at n) in
    let s = shows_cut c ops i j last.0 last.1 in
    (ends.0, last.0, s, shown_key c ops i j last.0 f s x)

-- two receptions of blocks of bytes, the second worse than the first, with no more keys than there is room for
module _ (t : Table) (c : Content) (holds : Stores t c) (better worse : List Operation) (lacks : Worse better worse)
    (room : key_count c better ≤ most_keys) (bytes : Every OfBytes better) (others : Every OfBytes worse) where
  pub copied_alike : {u v : Table} {rs qs : List Reply} (i j : ℕ) (f : Field)
      → Calls t (take (suc i) better) rs u → Calls t (take (suc i) worse) qs v → NotedShown qs i j → FieldAt worse i j f
      → (ns ks : List ℕ) (a b : Result Copied NotCopied) (na ka nb kb : List ℕ) → CopiesOut u (key_of f) ns ks a na ka → CopiesOut v (key_of f) ns ks b nb kb
      → (a ≡ b) × (na ≡ nb) × (ka ≡ kb)
  copied_alike i j f xs ys n x ns ks a b na ka nb kb =
      let ends = calls_hold c holds (every_take OfBytes (suc i) better bytes) xs in
      let shown = cut_shows t c holds worse others i j f ys n x in
      copy_call (key_of f) (after_all c (take (suc i) better)) (after_all c (take (suc i) worse)) ns ks a b na ka nb kb ends.0 shown.0
      (rw shown.3 at (better_found c better worse holds.0 lacks room i j shown.1 shown.2))
