-- The stored sheet (document 01).
use Rattle.std.specs.Prelude.{ℕ, zero, suc, ◌+◌, ◌/◌, ◌%◌, ◌≡◌, true, cond, List, [], ◌∷◌, ◌++◌, map, length, ltb}
use Rattle.std.proofs.Math.Option.{none, some}
use Rattle.rules.specs.declared.Outcome.{Outcome}
use Rattle.rules.specs.declared.Outcome.TheVariants.{Done, NotASheet}
use Rattle.rules.specs.Block.{bit}
use Rattle.rules.specs.Field.{Pair}
use Rattle.rules.specs.Collecting.{Held, Content, nothing, just_sets, Shown, shown_sets, meets}

-- a number in groups of seven bits, the lowest first, the top bit set on all but the last byte, in the fewest bytes: at most
-- this many
unfoldable pub groups : ℕ → ℕ → List ℕ
groups zero n = []
groups (suc most) n = cond (ltb n 128) (n ∷ []) ((n % 128 + 128) ∷ groups most (n / 128))

-- below 2^32, five bytes at most
unfoldable pub sheet_number : ℕ → List ℕ
sheet_number n = groups 5 n

-- kind and number of each identifier
unfoldable pub sheet_pairs : List Pair → List ℕ
sheet_pairs [] = []
sheet_pairs (p ∷ ps) = sheet_number p.kind ++ sheet_number p.number ++ sheet_pairs ps

-- a set: key, on or off, named kinds, count of identifiers, the identifiers
unfoldable pub sheet_set : Shown → List ℕ
sheet_set s =
    sheet_number s.key ++ sheet_number (bit s.on) ++ sheet_number s.set.named ++ sheet_number (length s.set.items)
    ++ sheet_pairs s.set.items

unfoldable pub sheet_sets : List Shown → List ℕ
sheet_sets [] = []
sheet_sets (s ∷ ss) = sheet_set s ++ sheet_sets ss

-- the sheet: count of shown sets, the sets in ascending key order
unfoldable pub sheet : Content → List ℕ
sheet t = sheet_number (length (shown_sets t.sets)) ++ sheet_sets (shown_sets t.sets)

-- ---- loading

-- a shown set as all that is held of its key
unfoldable pub alone : Shown → Held
alone s = record { key = s.key; state = s.on; shown = some s.set; draft = none; stamp = 0 }

-- a content with these sets, no open list and no other key
unfoldable pub just_shown : Content → Content
just_shown t = just_sets (map alone (shown_sets t.sets))

-- what loading answers and leaves: a sheet is accepted exactly if some table writes it, and gives that table's sets; else
-- 10 and the empty table
pub data Load (bytes : List ℕ) (outcome : Outcome) (left : Content) : Type 0 where
  accepted : (t : Content) → meets t ≡ true → sheet t ≡ bytes → outcome ≡ Done → left ≡ just_shown t → Load bytes outcome left
  not_a_sheet : ((t : Content) → meets t ≡ true → sheet t ≡ bytes → ⊥) → outcome ≡ NotASheet → left ≡ nothing → Load bytes outcome left
