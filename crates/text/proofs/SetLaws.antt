-- Laws of the listing of a table, with the numbers or without. In order: the lines of its sets from a place on; the listing of a
-- stored table, and how long that is; an output whose text is said in another way.
use Prim.Native.Nat.{ℕ, ◌+◌, ◌-◌, ◌<◌, ◌≤◌}
use native.Mathlib.Omega.{arith}
use mathlib.Core.Path.{◌≡◌, sym, ap, ◌∙◌, subst}
use mathlib.Core.Bool.{Bool, true}
use mathlib.Core.List.{List, [], ◌++◌}
use lib.ListN.{length, get_or, length-append}
use Rattle.rules.specs.Collecting.{Content, meets, most_keys}
use Rattle.rules.proofs.TableRules.{sets_meet_law}
use Rattle.sets.specs.declared.Sets.{Sets}
use Rattle.sets.specs.Stored.{past}
use Rattle.sets.specs.Shown.{confirmed_at, confirmed_from, sets_in, confirmed_sets_in}
use Rattle.sets.proofs.ShownLaws.{from_skip, from_next, from_end, from_all, sets_stored, confirmed_stored}
use Rattle.table.specs.declared.Table.{Table}
use Rattle.table.specs.Stored.{store_table}
use Rattle.table.proofs.GivenLaws.{sets_are}
use Rattle.std.specs.Prelude.{Result}
use Rattle.out.specs.declared.Unwritten.{Unwritten}
use Rattle.out.specs.Answer.{Outputs}
use Rattle.text.specs.Listing.{tail_text}
use Rattle.text.specs.Lines.{line_at, line_in, lines_in, first_text, listed}
use Rattle.text.specs.declared.Line.{Line}
use Rattle.text.proofs.Texts.{count_confirmed}

-- ---- the lines of the sets from a place on, where `n` is the number of entries

abbrev pub lines_from : Bool → Sets → ℕ → ℕ → List ℕ
lines_from numbered t i n = lines_in numbered (confirmed_from t i (n - i))

module _ (numbered : Bool) (t : Sets) (i n : ℕ) where
  pub lines_skip : i < n → (get_or t.shown i past).len ≡ 0 → lines_from numbered t i n ≡ lines_from numbered t (i + 1) n
  lines_skip h z = ap (lines_in numbered) (from_skip confirmed_at t i n h z)

  pub lines_next : {line : Line} → line ≡ line_at numbered t i → i < n → ((get_or t.shown i past).len ≡ 0 → ⊥)
      → lines_from numbered t i n ≡ line_in line (get_or t.shown i past) ++ lines_from numbered t (i + 1) n
  unfolding lines_in
  lines_next e h z = ap (lines_in numbered) (from_next confirmed_at t i n h z) ∙ ap (λ (l : Line). line_in l (get_or t.shown i past) ++ lines_from numbered t (i + 1) n) (sym e)

  pub lines_end : n ≤ i → lines_from numbered t i n ≡ []
  unfolding lines_in
  lines_end h = ap (lines_in numbered) (from_end confirmed_at t i n h)

-- all of them
pub lines_all : (numbered : Bool) (t : Sets) → t.count ≤ most_keys → lines_from numbered t 0 t.count ≡ lines_in numbered (confirmed_sets_in t)
unfolding confirmed_sets_in
lines_all numbered t h = ap (lines_in numbered) (from_all confirmed_at t {n = t.count} (omega arith))

-- ---- the listing of a stored table, by the sets in its arrays

module _ (numbered : Bool) (t : Table) (c : Content) (m : meets c ≡ true) (e : t ≡ store_table c) (over n : ℕ) (count : n ≡ length (sets_in t.sets)) where
  pub listed_of : first_text numbered n t.blocks ++ lines_in numbered (confirmed_sets_in t.sets) ++ tail_text over ≡ listed numbered c over
  unfolding listed
  listed_of =
      let sets = sets_are t c m e in
      let many = count ∙ ap length (ap sets_in sets ∙ sets_stored c.sets (sets_meet_law c m)) ∙ count_confirmed c in
      let shown = ap confirmed_sets_in sets ∙ confirmed_stored c.sets (sets_meet_law c m) in
      λ i. first_text numbered (many i) (e i).blocks ++ lines_in numbered (shown i) ++ tail_text over

  pub listed_size : {first lines last : ℕ} → first ≡ length (first_text numbered n t.blocks) → lines ≡ length (lines_in numbered (confirmed_sets_in t.sets))
      → last ≡ length (tail_text over) → first + lines + last ≡ length (listed numbered c over)
  listed_size f l k =
      omega (
        arith,
        f,
        l,
        k,
        length-append (first_text numbered n t.blocks) (lines_in numbered (confirmed_sets_in t.sets)),
        length-append (first_text numbered n t.blocks ++ lines_in numbered (confirmed_sets_in t.sets)) (tail_text over),
        ap length listed_of,
      )

-- an output whose text is said in another way
pub outputs_as : {F G : Content → List ℕ} (t : Table) (old : List ℕ) (r : Result ℕ Unwritten) (new : List ℕ) → ((c : Content) → F c ≡ G c)
    → Outputs F t old r new → Outputs G t old r new
outputs_as t old r new e h = subst (λ (text : Content → List ℕ). Outputs text t old r new) (λ i c. e c i) h
