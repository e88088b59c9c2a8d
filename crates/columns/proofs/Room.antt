-- How long the text of a table can be, so that a program's buffer suffices. In order: a row; a set; sets; a table.
use Prim.Native.Nat.{ℕ, suc, ◌+◌, ◌*◌, ◌/◌, ◌%◌, ◌^◌, ◌≤◌, ◌<◌}
use native.Mathlib.Nat.{mul-le-mul, suc-mul}
use native.Mathlib.Omega.{arith}
use mathlib.Core.Path.{◌≡◌, refl}
use mathlib.Core.Bool.{Bool, true, false, not, cond, ◌&&◌}
use mathlib.Core.List.{List, [], ◌∷◌, ◌++◌}
use mathlib.Core.Option.{Option, none, some}
use lib.ListN.{length, length-append}
use lib.Dec.{eqb}
use Rattle.rules.specs.Field.{rds, drm}
use Rattle.rules.specs.Collecting.{IdSet, Held, Entries, Content, Confirmed, confirming, confirmed_sets, key_width, if_there, entry_meets, entries_meet, meets, most_keys, most_ids, most_blocks}
use Rattle.lists.specs.Kinds.{has_kind}
use Rattle.rules.proofs.Basics.{and_left, and_right}
use Rattle.rules.proofs.TableRules.{set_rules, entry_rules, table_rules, NumbersWithin, content_meets, width_most}
use Rattle.columns.specs.Columns.{number_if, rows_of, filled, gap, cells_text, end_text, number_text, rows_text, line_width, rule_text, names_text, last_name, heading_text, sets_text, columns}
use Rattle.columns.specs.Cells.{row_size}
use Rattle.columns.proofs.Lines.{narrow_state, narrow_number, length_end_plain, length_end_sheet, length_end_eyes, length-set}

-- ---- a row

-- the bytes of a row at most, for a spreadsheet or for eyes, numbered or not
unfoldable row_room : Bool → Bool → ℕ
row_room csv numbered = cond csv (cond numbered 35 24) (cond numbered 62 49)

row_most : (csv numbered on : Bool) (n cell : ℕ) → n < 2 ^ 32 → cell ≤ 10 → row_size csv on (number_if numbered n) cell ≤ row_room csv numbered
unfolding row_room row_size number_if number_text
row_most true true on n cell h k = omega (arith, narrow_state on, length_end_sheet n, narrow_number n h)
row_most true false on n cell h k = omega (arith, narrow_state on, length_end_plain true)
row_most false true on n cell h k = omega (arith, length_end_eyes n h)
row_most false false on n cell h k = omega (arith, length_end_plain false)

-- ---- a set: 130 rows, and for eyes a line of dashes

-- the bytes of a set at most
unfoldable set_room : Bool → Bool → ℕ
set_room csv numbered = 130 * row_room csv numbered + length (rule_text csv numbered)

if_most : (b : Bool) (x n : ℕ) → x ≤ n → cond b x 0 ≤ n
if_most true x n h = h
if_most false x n h = omega arith

set_most : (csv numbered : Bool) (c : Confirmed) → c.block < 2 ^ 32 → length c.shown.set.items ≤ most_ids
    → length (rows_text csv (rows_of (number_if numbered c.block) c.shown) ++ rule_text csv numbered) ≤ set_room csv numbered
unfolding set_room
set_most csv numbered c n h =
    let s = c.shown in
    let b = number_if numbered c.block in
    let dead : row_size csv s.on b 9 ≤ row_room csv numbered = row_most csv numbered s.on c.block 9 n (omega arith) in
    let live : row_size csv s.on b (2 + 2 * key_width s.key) ≤ row_room csv numbered = row_most csv numbered s.on c.block _ n (omega (arith, width_most s.key)) in
    omega (
      arith,
      length-set csv b s (rule_text csv numbered) refl refl refl refl,
      mul-le-mul {n₂ = most_ids} {m₂ = row_room csv numbered} h live,
      if_most (eqb (s.set.named % 2) 1 && not (has_kind rds s.set.items)) _ _ dead,
      if_most (eqb (s.set.named / 2) 1 && not (has_kind drm s.set.items)) _ _ dead,
    )

-- ---- the sets of entries that meet the rules

module _ (csv numbered : Bool) where
  next_most : (e : Held) (o : Option IdSet) (rest : List Confirmed) (n : ℕ) → if_there e.key o ≡ true → e.stamp < 2 ^ 32
      → length (sets_text csv numbered rest) ≤ n * set_room csv numbered
      → length (sets_text csv numbered (confirming e o rest)) ≤ suc n * set_room csv numbered
  unfolding confirming if_there sets_text
  next_most e none rest n m k h = omega (arith, h, suc-mul n (set_room csv numbered))
  next_most e (some l) rest n m k h =
      let c : Confirmed = record { shown = record { key = e.key; on = e.state; set = l }; block = e.stamp } in
      omega (
        arith,
        h,
        suc-mul n (set_room csv numbered),
        length-append (rows_text csv (rows_of (number_if numbered c.block) c.shown) ++ rule_text csv numbered) (sets_text csv numbered rest),
        set_most csv numbered c k ((set_rules e.key l).0 m).short,
      )

  sets_most : (c : Entries) (n : ℕ) → n ≤ most_blocks → entries_meet c ≡ true → NumbersWithin n c
      → length (sets_text csv numbered (confirmed_sets c)) ≤ length c * set_room csv numbered
  unfolding confirmed_sets entries_meet sets_text
  sets_most [] n k m w = omega arith
  sets_most (e ∷ es) n k m w =
      next_most e e.shown (confirmed_sets es) (length es) ((entry_rules e).0 (and_left (entry_meets e) (entries_meet es) m)).shown (omega (arith, k, w.0))
      (sets_most es n k (and_right (entry_meets e) (entries_meet es) m) w.1)

  -- ---- a table: 32 sets and the heading

  whole_most : (c : Content) → meets c ≡ true
      → length (columns csv numbered c) ≤ length (heading_text csv numbered ++ rule_text csv numbered) + most_keys * set_room csv numbered
  unfolding columns
  whole_most c m =
      let f = (content_meets c).0 m in
      let r = (table_rules c.sets).0 f.sets in
      let room = set_room csv numbered in
      omega (
        arith,
        sets_most c.sets c.blocks f.most r.entries f.within,
        mul-le-mul {n₁ = length c.sets} {m₁ = room} {n₂ = most_keys} {m₂ = room} r.short (omega arith),
        length-append (heading_text csv numbered ++ rule_text csv numbered) (sets_text csv numbered (confirmed_sets c.sets)),
      )

pub columns_most : (csv numbered : Bool) (c : Content) → meets c ≡ true
    → length (columns csv numbered c) ≤ cond csv (cond numbered 145638 99872) (cond numbered 260028 205506)
unfolding set_room row_room heading_text names_text cells_text end_text last_name filled gap rule_text line_width
columns_most true true c m = omega (arith, whole_most true true c m)
columns_most true false c m = omega (arith, whole_most true false c m)
columns_most false true c m = omega (arith, whole_most false true c m)
columns_most false false c m = omega (arith, whole_most false false c m)
