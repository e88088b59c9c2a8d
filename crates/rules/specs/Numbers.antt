-- Numbers (document 02, R-9), over a family where the number of a block is the stamp of its fields. In this order: the field at a place of a
-- reception; the last field at which a set of a key came to be shown; entries, fields and readings apart from their stamps, which is
-- reading as it was before R-9.
use Rattle.std.specs.Prelude.{ℕ, zero, suc, ◌/◌, ◌<◌, ◌≡◌, ◌⊎◌, List, [], ◌∷◌, map, length, take, drop}
use Rattle.std.proofs.Math.Option.{Option, none, some}
use Rattle.std.proofs.Math.ListN.{get_elem?}
use Rattle.rules.specs.Family.{Family, Listed, Said, Entry, find, steps, drop_open}
use Rattle.rules.specs.Receptions.{Op, said_in, ShowsRun}
use Rattle.rules.specs.Collecting.{linkage, Entries, said}
use Rattle.rules.specs.Outcomes.{Verdict, taken, refused, no_block, verdict}

module _ (F : Family) where
  open F use {Key, State, Stamp, unstamped}

  -- field j of operation i
  unfoldable pub field_at : List (Op F) → ℕ → ℕ → Option (Said F)
  field_at [] i j = none
  field_at (o ∷ os) zero j = get_elem? (said_in F o) j
  field_at (o ∷ os) (suc i) j = field_at os i j

  -- one place of a reception, by operation and field, comes after another
  abbrev pub Later : ℕ → ℕ → ℕ → ℕ → Type 0
  Later i j i' j' = (i < i') ⊎ ((i ≡ i') × (j < j'))

  -- where the set that is shown under a key, and its stamp, are from: shown before the reception, which came to show none of that key;
  -- or the last that it came to show, with the stamp of that field
  pub data LastShown (t : List (Entry F)) (os : List (Op F)) (k : Key) (l : Listed F) (p : Stamp) : Type 0 where
    earlier : (e : Entry F) → find F k t ≡ some e → e.shown ≡ some l → e.stamp ≡ p
        → ((i j : ℕ) (s : State) (m : Listed F) → ShowsRun F t os i j k s m → ⊥) → LastShown t os k l p
    shown : (i j : ℕ) (s : State) (f : Said F) → ShowsRun F t os i j k s l → field_at os i j ≡ some f → f.stamp ≡ p
        → ((i' j' : ℕ) (s' : State) (m : Listed F) → Later i j i' j' → ShowsRun F t os i' j' k s' m → ⊥) → LastShown t os k l p

  -- an entry without its stamp, and a field without it
  unfoldable pub bare : Entry F → Entry F
  bare e = record { key = e.key; state = e.state; shown = e.shown; draft = e.draft; stamp = unstamped }

  unfoldable pub bare_said : Said F → Said F
  bare_said f = record { key = f.key; state = f.state; act = f.act; stamp = unstamped }

-- ---- blocks read apart from numbers

unfoldable pub plain_after : Entries → Verdict → Entries
plain_after t (taken fs) = (steps linkage t (map (said 0) fs)).0
plain_after t (refused o p) = drop_open linkage t
plain_after t no_block = t

unfoldable pub plain_blocks : ℕ → Entries → List ℕ → Entries
plain_blocks zero t bytes = t
plain_blocks (suc n) t bytes = plain_blocks n (plain_after t (verdict (take 32 bytes))) (drop 32 bytes)

unfoldable pub plain_recording : Entries → List ℕ → Entries
plain_recording t bytes = plain_blocks (length bytes / 32) t bytes
