-- Loading as the code does it: the count, the sets and that nothing is left over make the parser's answer, which is what loading answers.
use Prim.Native.Nat.{ℕ, ◌≤◌}
use mathlib.Core.Path.{◌≡◌, refl, sym, ap, ap₂, ◌∙◌}
use mathlib.Core.Bool.{cond}
use mathlib.Core.List.{List, []}
use mathlib.Core.Option.{Option, none, some}
use lib.ListN.{length}
use lib.Dec.{leb, eqb}
use borrow.Author.Tests.{leb-true, eq-eqb, ne_eqb}
use Rattle.std.specs.Prelude as lang
use Rattle.std.specs.Borrow.{Bor}
use Rattle.std.proofs.lemmas.Option.{none-some, same_Some}
use Rattle.rules.specs.declared.Outcome.TheVariants.{Done, NotASheet}
use Rattle.rules.specs.Collecting.{Content, Entries, nothing, just_sets, most_keys}
use Rattle.rules.proofs.TableRules.{table_rules, sets_meet_law}
use Rattle.layout.proofs.Standing.{Bytes}
use Rattle.layout.specs.Parse.{read_if, read_sets, parse_sheet}
use Rattle.layout.proofs.ParseLaws.{then_go, then_none, sheet_read, parsed_outcome, parsed_left, parse_loads}
use Rattle.sets.specs.declared.Sets.{Sets}
use Rattle.totals.specs.declared.Totals.{Totals}
use Rattle.totals.specs.Totals.{totals_of}
use Rattle.totals.proofs.Laws.{kept_sums}
use Rattle.table.specs.declared.Table.{Table}
use Rattle.table.specs.Stored.{table_of, store_table}
use Rattle.sheet.specs.declared.Reader.{Reader}
use Rattle.sheet.specs.Reading.{Reads, sets_as, table_of_sheet}
use Rattle.sheet.specs.Loading.{Loads}
use Rattle.sheet.proofs.Steps.{was_read, not_read}
use Rattle.sheet.proofs.Tests.{if_true}

-- ---- the table of a sheet

module _ (b : Bor (List ℕ)) where
  abbrev bytes : List ℕ
  bytes = b.now

  abbrev start : Reader
  start = record { bytes = b; at = 0 }

  sheet_none : {given : lang.Option Table} → given ≡ lang.None → parse_sheet bytes ≡ none → given ≡ table_of_sheet (parse_sheet bytes)
  unfolding table_of_sheet
  sheet_none e p = e ∙ sym (ap table_of_sheet p)

  pub no_count : {given : lang.Option Table} {new : Reader} → Reads (λ n. n) (read_if (λ n. leb n most_keys) bytes 0) start lang.None new → given ≡ lang.None
      → given ≡ table_of_sheet (parse_sheet bytes)
  unfolding parse_sheet
  no_count n e = sheet_none e (then_none _ (not_read n))

  module _ {count : ℕ} {here : Reader} (n : Reads (λ n. n) (read_if (λ n. leb n most_keys) bytes 0) start (lang.Some count) here) where
    -- a count that passes is at most 32
    pub count_few : count ≤ most_keys
    count_few = leb-true count most_keys (if_true (λ n. leb n most_keys) n)

    pub no_sets : {given : lang.Option Table} {new : Reader} → Reads sets_as (read_sets count 0 [] here.bytes.now here.at) here lang.None new → given ≡ lang.None
        → given ≡ table_of_sheet (parse_sheet bytes)
    unfolding parse_sheet
    no_sets s e =
        let m = was_read n in
        let q : read_sets m.r.value 0 [] bytes m.r.next ≡ none =
        (λ i. read_sets (sym m.value_is i) 0 [] (sym m.stands i).bytes.now (sym m.stands i).at) ∙ not_read s in
        sheet_none e (then_go _ _ m.there ∙ then_none _ q)

    module _ {sets : Sets} {totals : Totals} {end : Reader} (s : Reads sets_as (read_sets count 0 [] here.bytes.now here.at) here (lang.Some (sets, totals)) end) where
      abbrev value : Entries
      value = (was_read s).r.value

      sets_there : read_sets (was_read n).r.value 0 [] bytes (was_read n).r.next ≡ some (record { value = value; next = end.at })
      sets_there =
          let m = was_read n in
          let k = was_read s in
          (λ i. read_sets (sym m.value_is i) 0 [] (sym m.stands i).bytes.now (sym m.stands i).at)
          ∙ k.there ∙ (λ i. some (record { value = value; next = (sym k.stands i).at }))

      parsed : parse_sheet bytes ≡ cond (eqb end.at (length bytes)) (some (just_sets value)) none
      unfolding parse_sheet
      parsed = then_go _ _ (was_read n).there ∙ then_go _ _ sets_there

      pub left_over : (end.at ≡ length bytes → ⊥) → lang.None ≡ table_of_sheet (parse_sheet bytes)
      left_over d = sheet_none refl (parsed ∙ rw (ne_eqb end.at (length bytes) d))

      pub sheet_made : Bytes bytes → end.at ≡ length bytes → (u : Table) → u ≡ table_of sets totals 0 → lang.Some u ≡ table_of_sheet (parse_sheet bytes)
      unfolding totals_of table_of_sheet sets_as
      sheet_made byte d u q =
          let p : parse_sheet bytes ≡ some (just_sets value) = parsed ∙ rw (eq-eqb end.at (length bytes) d) in
          let r = (table_rules value).0 (sets_meet_law _ (sheet_read bytes _ byte p).rules) in
          let k = was_read s in
          let t : u ≡ store_table (just_sets value) =
          q ∙ ap₂ (λ (x : Sets) (n : Totals). table_of x n 0) (λ i. (k.value_is i).0) ((λ i. (k.value_is i).1) ∙ kept_sums value r.entries r.short) in
          ap lang.Some t ∙ sym (ap table_of_sheet p)

-- ---- what loading answers

module _ (bytes : List ℕ) (byte : Bytes bytes) where
  done : (o : Option Content) → parse_sheet bytes ≡ o → (u : Table) → lang.Some u ≡ table_of_sheet o → Loads bytes (record { outcome = Done; table = u })
  unfolding table_of_sheet parsed_outcome parsed_left
  done none p u e = absurd (none-some _ (sym e))
  done (some t) p u e = record { left = t; load = rw p at (parse_loads bytes byte); stored = same_Some _ _ e }

  refused : (o : Option Content) → parse_sheet bytes ≡ o → (u : Table) → lang.None ≡ table_of_sheet o → u ≡ store_table nothing
      → Loads bytes (record { outcome = NotASheet; table = u })
  unfolding table_of_sheet parsed_outcome parsed_left
  refused none p u e n = record { left = nothing; load = rw p at (parse_loads bytes byte); stored = n }
  refused (some t) p u e n = absurd (none-some _ e)

  pub loads_done : (u : Table) → lang.Some u ≡ table_of_sheet (parse_sheet bytes) → Loads bytes (record { outcome = Done; table = u })
  loads_done u e = done (parse_sheet bytes) refl u e

  pub loads_refused : (u : Table) → lang.None ≡ table_of_sheet (parse_sheet bytes) → u ≡ store_table nothing → Loads bytes (record { outcome = NotASheet; table = u })
  loads_refused u e n = refused (parse_sheet bytes) refl u e n
