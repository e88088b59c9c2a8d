-- What the code has to write, by its parts and by their lengths. In order: the identifiers of a list from a place on; a set;
-- the sets of a table from a place on; the sheet of a stored table.
use Prim.Native.Nat.{ℕ, ◌+◌, ◌-◌, ◌*◌, ◌<◌, ◌≤◌}
use native.Mathlib.Numerals.{add-one}
use native.Mathlib.Omega.{arith}
use mathlib.Core.Path.{◌≡◌, refl, ap, ◌∙◌}
use mathlib.Core.Bool.{Bool, true, false}
use mathlib.Core.List.{List, [], ◌∷◌, ◌++◌, append_assoc}
use lib.ListN.{length, get_or, drop, length-append}
use Rattle.std.specs.Int.{from_bool}
use Rattle.rules.specs.Block.{bit}
use Rattle.rules.specs.Field.{Pair, pair}
use Rattle.rules.specs.Collecting.{Content, Shown, meets, shown_sets, most_keys, most_ids}
use Rattle.layout.specs.Sheet.{sheet_number, sheet_pairs, sheet_set, sheet_sets, sheet}
use Rattle.layout.proofs.Laws.{shown_entries, sets_most}
use Rattle.rules.proofs.TableRules.{sets_meet_law, table_rules, shown_few}
use Rattle.lists.specs.declared.IdList.{IdList}
use Rattle.lists.specs.Stored.{pairs_in}
use Rattle.lists.proofs.PairLaws.{length_pairs_in, drop_pairs, drop_pairs_end}
use Rattle.lists.proofs.StoredLaws.{holds_facts}
use Rattle.sets.specs.declared.Sets.{Sets}
use Rattle.sets.specs.Stored.{store_sets, SetsStored, past, EachHolds}
use Rattle.sets.specs.Shown.{set_in, shown_as, shown_at, sets_from, sets_in}
use Rattle.sets.proofs.SetsLaws.{stored_facts}
use Rattle.sets.proofs.ShownLaws.{sets_next, sets_stored}
use Rattle.out.specs.declared.Page.{Page}
use Rattle.out.specs.Page.{Writes}
use Rattle.out.proofs.Pages.{writes_as, writes_then}
use Rattle.sheet.proofs.Groups.{number_short}

-- a flag as a number
pub flag_bit : (on : Bool) → from_bool on ≡ bit on
unfolding bit
flag_bit true = refl
flag_bit false = refl

-- ---- identifiers

pairs_short : (ps : List Pair) → length (sheet_pairs ps) ≤ 10 * length ps
unfolding sheet_pairs
pairs_short [] = omega arith
pairs_short (p ∷ ps) =
    let k = number_short p.kind in
    let n = number_short p.number in
    let r = pairs_short ps in
    simp length-append (omega arith)

-- the identifiers that a list stores
abbrev pub pairs_of : IdList → List Pair
pairs_of list = pairs_in list.kinds list.numbers list.len

module _ (list : IdList) (kinds_long : length list.kinds ≡ most_ids) (numbers_long : length list.numbers ≡ most_ids) (short : list.len ≤ most_ids) where
  pub pairs_many : length (pairs_of list) ≡ list.len
  pairs_many = length_pairs_in list.kinds list.numbers list.len ∙ omega arith

  pub pairs_size : length (sheet_pairs (pairs_of list)) ≤ 1280
  pairs_size = omega (arith, pairs_short (pairs_of list), pairs_many)

  module _ (i : ℕ) where
    pub pairs_here : i < list.len
        → sheet_pairs (drop i (pairs_of list))
        ≡ sheet_number (get_or list.kinds i 0) ++ (sheet_number (get_or list.numbers i 0) ++ sheet_pairs (drop (i + 1) (pairs_of list)))
    unfolding sheet_pairs pair
    pairs_here h =
        rw (add-one i)
        (ap sheet_pairs (drop_pairs list.kinds list.numbers list.len i (omega arith)) ∙ simp append_assoc)

    pub pairs_end : list.len ≤ i → sheet_pairs (drop i (pairs_of list)) ≡ []
    unfolding sheet_pairs
    pairs_end h = ap sheet_pairs (drop_pairs_end list.kinds list.numbers list.len i (omega arith))

    -- by their lengths
    pub size_here : i < list.len
        → length (sheet_pairs (drop i (pairs_of list)))
        ≡ length (sheet_number (get_or list.kinds i 0)) + length (sheet_number (get_or list.numbers i 0)) + length (sheet_pairs (drop (i + 1) (pairs_of list)))
    size_here h = ap length (pairs_here h) ∙ simp length-append (omega arith)

  -- ---- a set

  module _ (key : ℕ) (on : Bool) where
    pub size_set : length (sheet_set (shown_as key on list))
        ≡ length (sheet_number key) + length (sheet_number (bit on)) + length (sheet_number list.named) + length (sheet_number list.len) + length (sheet_pairs (pairs_of list))
    unfolding sheet_set shown_as set_in
    size_set = simp (length-append, pairs_many)

-- ---- the sets of a table, where `n` is the number of its entries

module _ (t : Sets) (i n : ℕ) where
  pub sets_here : i < n → ((get_or t.shown i past).len ≡ 0 → ⊥)
      → sheet_sets (sets_from t i (n - i)) ≡ sheet_set (shown_at t i) ++ sheet_sets (sets_from t (i + 1) (n - (i + 1)))
  unfolding sheet_sets
  sets_here h z = ap sheet_sets (sets_next t i n h z)

  -- by their lengths
  pub size_sets : i < n → ((get_or t.shown i past).len ≡ 0 → ⊥)
      → length (sheet_sets (sets_from t i (n - i))) ≡ length (sheet_set (shown_at t i)) + length (sheet_sets (sets_from t (i + 1) (n - (i + 1))))
  size_sets h z = ap length (sets_here h z) ∙ length-append (sheet_set (shown_at t i)) (sheet_sets (sets_from t (i + 1) (n - (i + 1))))

-- ---- stored sets

pub count_short : (t : Sets) → SetsStored t → t.count ≤ most_keys
count_short t s = (stored_facts t s).short

pub list_short : (t : Sets) (i : ℕ) → SetsStored t → i < t.count → (get_or t.shown i past).len ≤ most_ids
unfolding EachHolds
list_short t i s h = (holds_facts (get_or t.keys i 0) _ ((stored_facts t s).shown_hold i (omega (arith, count_short t s)))).short

-- its sets take few bytes
pub sets_short : (t : Sets) → SetsStored t → length (sheet_sets (sets_in t)) ≤ 24800
unfolding SetsStored
sets_short t s =
    let r = (table_rules s.0).0 s.1 in
    rw (ap sets_in s.2 ∙ sets_stored s.0 s.1)
    (omega (arith, r.short, shown_few s.0, sets_most (shown_sets s.0) (shown_entries s.0 r.entries)))

-- its sheet, by the sets in its arrays
module _ (t : Sets) (c : Content) (m : meets c ≡ true) (e : t ≡ store_sets c.sets) {count : ℕ} (count_is : count ≡ length (sets_in t)) where
  sheet_of : sheet_number count ++ sheet_sets (sets_in t) ≡ sheet c
  unfolding sheet
  sheet_of =
      ap (λ (n : ℕ). sheet_number n ++ sheet_sets (sets_in t)) count_is
      ∙ ap (λ (ss : List Shown). sheet_number (length ss) ++ sheet_sets ss) (ap sets_in e ∙ sets_stored c.sets (sets_meet_law c m))

  pub size_sheet : {n size : ℕ} → n ≡ length (sheet_number count) → size ≡ length (sheet_sets (sets_in t)) → n + size ≡ length (sheet c)
  size_sheet a b = omega (arith, length-append (sheet_number count) (sheet_sets (sets_in t)), ap length sheet_of)

  pub writes_sheet : {p q r : Page} → Writes p (sheet_number count) q → Writes q (sheet_sets (sets_in t)) r → Writes p (sheet c) r
  writes_sheet a b = writes_as sheet_of (writes_then a b)
