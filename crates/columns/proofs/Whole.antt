-- Laws of the sets of a table in columns. In order: the text of its sets from a place on; the text of a stored table, and how long
-- it is.
use Prim.Native.Nat.{ℕ, ◌+◌, ◌-◌, ◌<◌, ◌≤◌}
use native.Mathlib.Omega.{arith}
use mathlib.Core.Path.{◌≡◌, sym, ap, ◌∙◌}
use mathlib.Core.Bool.{Bool, true}
use mathlib.Core.List.{List, [], ◌++◌}
use lib.ListN.{length, get_or, length-append}
use Rattle.rules.specs.Collecting.{Content, Confirmed, meets, most_keys}
use Rattle.rules.proofs.TableRules.{sets_meet_law}
use Rattle.sets.specs.declared.Sets.{Sets}
use Rattle.sets.specs.Stored.{store_sets, past}
use Rattle.sets.specs.Shown.{confirmed_at, confirmed_from, confirmed_sets_in}
use Rattle.sets.proofs.ShownLaws.{from_skip, from_next, from_end, from_all, confirmed_stored}
use Rattle.columns.specs.Columns.{rule_text, heading_text, sets_text, columns}
use Rattle.columns.specs.Cells.{rows_at, set_text}
use Rattle.columns.specs.declared.Form.{Form}
use Rattle.columns.specs.declared.Rows.{Rows}

-- ---- the text of the sets from a place on, where `n` is the number of entries

abbrev pub text_from : Form → Sets → ℕ → ℕ → List ℕ
text_from f t i n = sets_text f.csv f.numbered (confirmed_from t i (n - i))

module _ (f : Form) (t : Sets) where
  module _ (i n : ℕ) where
    pub text_skip : i < n → (get_or t.shown i past).len ≡ 0 → text_from f t i n ≡ text_from f t (i + 1) n
    text_skip h z = ap (sets_text f.csv f.numbered) (from_skip confirmed_at t i n h z)

    pub text_next : {rows : Rows} → rows ≡ rows_at f t i → i < n → ((get_or t.shown i past).len ≡ 0 → ⊥)
        → text_from f t i n ≡ set_text rows (get_or t.shown i past) ++ text_from f t (i + 1) n
    unfolding sets_text
    text_next e h z =
        ap (sets_text f.csv f.numbered) (from_next confirmed_at t i n h z)
        ∙ ap (λ (rows : Rows). set_text rows (get_or t.shown i past) ++ text_from f t (i + 1) n) (sym e)

    pub text_end : n ≤ i → text_from f t i n ≡ []
    unfolding sets_text
    text_end h = ap (sets_text f.csv f.numbered) (from_end confirmed_at t i n h)

  -- all of them
  pub text_all : t.count ≤ most_keys → text_from f t 0 t.count ≡ sets_text f.csv f.numbered (confirmed_sets_in t)
  unfolding confirmed_sets_in
  text_all h = ap (sets_text f.csv f.numbered) (from_all confirmed_at t {n = t.count} (omega arith))

-- ---- the text of a stored table, by the sets in its arrays

module _ (csv numbered : Bool) (t : Sets) (c : Content) (m : meets c ≡ true) (e : t ≡ store_sets c.sets) where
  pub columns_of : heading_text csv numbered ++ rule_text csv numbered ++ sets_text csv numbered (confirmed_sets_in t) ≡ columns csv numbered c
  unfolding columns
  columns_of =
      ap (λ (cs : List Confirmed). heading_text csv numbered ++ rule_text csv numbered ++ sets_text csv numbered cs)
      (ap confirmed_sets_in e ∙ confirmed_stored c.sets (sets_meet_law c m))

  pub columns_size : {heading sets : ℕ} → heading ≡ length (heading_text csv numbered ++ rule_text csv numbered)
      → sets ≡ length (sets_text csv numbered (confirmed_sets_in t)) → heading + sets ≡ length (columns csv numbered c)
  columns_size h s =
      omega (arith, h, s, length-append (heading_text csv numbered ++ rule_text csv numbered) (sets_text csv numbered (confirmed_sets_in t)), ap length columns_of)
