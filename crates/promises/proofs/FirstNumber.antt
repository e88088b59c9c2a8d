-- Document 02, R-3, the first number from another ensemble, on the contracts. In order: the guard, that what copy_out gives of a key with OE 0
-- begins with a DAB service; what met the rules before R-3: it is taken, writes its sheet, and that sheet loads; and that reading without OE 1
-- is as it was, with whatever is made of it. The same of what is written for air is `recording_air_before`, crate pieces.
use Prim.Native.Nat.{ℕ, ◌/◌, ◌≤◌}
use native.Mathlib.Omega.{arith}
use mathlib.Core.Path.{◌≡◌, refl, sym, ap, ◌∙◌, subst}
use mathlib.Core.Bool.{true, ◌||◌}
use mathlib.Core.List.{List, [], ◌∷◌, map}
use mathlib.Core.Option.{Option, none, some}
use lib.ListN.{length, get_or}
use lib.Dec.{ltb}
use borrow.Author.Tests.{eqb-true}
use Rattle.rules.specs.declared.Outcome.TheVariants.{Done}
use Rattle.rules.specs.Field.{Pair, kind_in, dab, rds}
use Rattle.rules.specs.Family.{find}
use Rattle.rules.specs.Collecting.{linkage, IdSet, Held, Content, oe_of, not_empty}
use Rattle.rules.specs.Outcomes as Outcomes
use Rattle.rules.specs.Outcomes.{number_of, verdict, read_recording, overwritten, not_copied, copy_set, copy_held, copy_out}
use Rattle.rules.specs.Before.{begins_dab, met_before, block_before, recording_before}
use Rattle.rules.proofs.Basics.{cases_bool, true-false, Within, within_if}
use Rattle.rules.proofs.FamilyLaws.{find_key, every_found}
use Rattle.rules.proofs.TableRules.{lawful, SetMeets, EntryMeets, table_meets_law, sets_meet_law}
use Rattle.rules.proofs.Before.{begins_tuned, met_before_law, TunedIn, block_before_law, TunedBlocks, recording_before_law}
use Rattle.layout.specs.Sheet.{sheet, just_shown}
use Rattle.layout.proofs.Laws.{load_written}
use Rattle.table.specs.declared.Table.{Table}
use Rattle.table.specs.declared.Copied.{Copied}
use Rattle.table.specs.Stored.{store_table, Stored, stored, not_stored}
use Rattle.table.specs.Answers.{copied_as}
use Rattle.table.proofs.GivenLaws.{given_content}
use Rattle.reading.specs.declared.Answer.{Answer}
use Rattle.reading.specs.declared.Recorded.{Recorded}
use Rattle.reading.specs.Runs.{run_as, recorded_as}
use Rattle.std.specs.Prelude.{Result, Ok}
use Rattle.out.specs.declared.Unwritten.{Unwritten}
use Rattle.sheet.specs.declared.Loaded.{Loaded}
use Rattle.sheet.specs.Loading.{Loads}
use Rattle.out.specs.Answer.{outcome_of}
use Rattle.promises.proofs.Contracts.{told, ReadsBlock, ReadsRecording, CopiesOut, WritesSheet}
use Rattle.promises.proofs.Answers.{Stores}
use Rattle.promises.proofs.Buffers.{write_done}

-- ---- the guard

-- the first kind of a list that begins with a DAB service
first_kind_law : (ps : List Pair) (ks : List ℕ) → not_empty ps ≡ true → begins_dab ps ≡ true → get_or (overwritten (map kind_in ps) ks) 0 rds ≡ dab
unfolding not_empty begins_dab overwritten kind_in
first_kind_law [] ks n b = true-false n refl
first_kind_law (p ∷ ps) ks n b = eqb-true p.kind dab b

module _ (k : ℕ) (tuned : oe_of k ≡ 0) (ns ks : List ℕ) where
  set_first : (e : Held) (o : Option IdSet) → Within (SetMeets k) o → number_of (copy_set e o ns ks).outcome ≡ 0 → get_or (copy_set e o ns ks).kinds 0 rds ≡ dab
  unfolding copy_set not_copied number_of
  set_first e none m = λ z. absurd (omega arith)
  set_first e (some l) m =
      cases_bool (ltb (length ns) (length l.items) || ltb (length ks) (length l.items))
      (λ b. rw b (λ z. absurd (omega arith)))
      (λ b. rw b (λ z. first_kind_law l.items ks m.some (begins_tuned k l.items tuned m.first)))

  held_first : (o : Option Held) → Within (λ (e : Held). (e.key ≡ k) × EntryMeets e) o → number_of (copy_held o ns ks).outcome ≡ 0
      → get_or (copy_held o ns ks).kinds 0 rds ≡ dab
  unfolding copy_held not_copied number_of
  held_first none m z = absurd (omega arith)
  held_first (some e) m z = set_first e e.shown (rw m.0 at m.1.1.0) z

  pub copy_out_first : (t : Table) (r : Copied) (ms js : List ℕ) → CopiesOut t k ns ks (Ok r) ms js → get_or js 0 rds ≡ dab
  unfolding copy_out copied_as not_copied number_of
  copy_out_first t r ms js (stored c m e a) =
      let entries = ((table_meets_law c.sets).0 (sets_meet_law c m)).entries in
      let found = within_if (λ (x : Held). (x.key ≡ k) × EntryMeets x) (find linkage k c.sets)
      (λ x h. (find_key linkage lawful k c.sets x h, subst (Within EntryMeets) h (every_found linkage EntryMeets k c.sets entries))) in
      ap (λ (x : Outcomes.Copied). get_or x.kinds 0 rds) a
      ∙ held_first (find linkage k c.sets) found (sym (ap (λ (x : Outcomes.Copied). number_of x.outcome) a))
  copy_out_first t r ms js (not_stored n a) = absurd (omega (arith, ap (λ (x : Outcomes.Copied). number_of x.outcome) a))

-- ---- what met the rules before

module _ (c : Content) (m : met_before c ≡ true) where
  -- its stored form is taken
  pub old_table_taken : Stored (store_table c)
  unfolding Stored
  old_table_taken = (c, met_before_law c m, refl)

  -- it writes its sheet, whose definition has not moved
  pub old_table_writes : (old : List ℕ) (r : Result ℕ Unwritten) (new : List ℕ) → WritesSheet (store_table c) old r new → length (sheet c) ≤ length old
      → (number_of (told outcome_of r) ≡ 0) × (r ≡ Ok (length (sheet c))) × (new ≡ overwritten (sheet c) old)
  old_table_writes old r new w h = write_done sheet (store_table c) old r new w c (met_before_law c m) refl h

  -- that sheet loads, to the table that it gave; `load_sheet_writes` says that it is written again as the same bytes
  pub old_sheet_loads : (q : Loaded) → Loads (sheet c) q → (q.outcome ≡ Done) × (q.table ≡ store_table (just_shown c))
  old_sheet_loads q a = let l = load_written c (met_before_law c m) a.load in (l.0, a.stored ∙ ap store_table l.1)

-- ---- reading without OE 1

module _ (t : Table) (c : Content) (holds : Stores t c) where
  -- a block: the answer, its notes and the table left
  pub read_block_before : (fib : List ℕ) (r : Answer) → TunedIn (verdict fib) → ReadsBlock t fib r → r ≡ run_as (block_before c fib)
  read_block_before fib r h a = given_content c holds.0 holds.1 a ∙ ap run_as (block_before_law c fib h)

  -- a recording: the table left
  pub read_recording_before : (bytes : List ℕ) (r : Recorded) → TunedBlocks (length bytes / 32) bytes → ReadsRecording t bytes r
      → r.table ≡ store_table (recording_before c bytes)
  unfolding recorded_as
  read_recording_before bytes r h a =
      ap (λ (x : Recorded). x.table) (given_content c holds.0 holds.1 a) ∙ ap store_table (recording_before_law c bytes h)

-- and whatever is made of its content: listing, columns and sheet, whose definitions have not moved
pub made_before : {A : Type 0} (make : Content → A) (c : Content) (bytes : List ℕ) → TunedBlocks (length bytes / 32) bytes
    → make (read_recording c bytes) ≡ make (recording_before c bytes)
made_before make c bytes h = ap make (recording_before_law c bytes h)
