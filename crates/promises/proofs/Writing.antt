-- What writes an output of a table into a lent buffer has a numbered outcome, and every refusal leaves the buffer as it was
-- (document 01, demand 1): one law over the output; by it, in Written.antt, the listing with numbers and without, the columns, the totals, the sheet and the blocks for air. Last,
-- loading a sheet. What follows from these answers is in Buffers.antt, AirWritten.antt and SheetWritten.antt.
use Prim.Native.Nat.{ℕ, ◌≤◌, ◌<◌}
use mathlib.Core.Path.{◌≡◌, ap, ◌∙◌}
use mathlib.Core.Bool.{true}
use mathlib.Core.List.{List, ◌++◌}
use lib.ListN.{length, drop}
use lib.Dec.{ltb}
use borrow.Author.Tests.{ltb-true, ltb-false}
use Rattle.rules.specs.Collecting.{Content, nothing, meets}
use Rattle.rules.specs.Outcomes.{number_of, overwritten}
use Rattle.out.specs.Writing.{written_to}
use Rattle.layout.specs.Sheet.{sheet, just_shown, Load, accepted, not_a_sheet}
use Rattle.rules.proofs.Basics.{cases_bool}
use Rattle.table.specs.declared.Table.{Table}
use Rattle.table.specs.Stored.{store_table, Stored, stored, not_stored}
use Rattle.std.specs.Prelude.{Result, Ok, Err}
use Rattle.out.specs.declared.Unwritten.{Unwritten}
use Rattle.out.specs.declared.Unwritten.TheVariants.{WrongTable, ShortBuffer}
use Rattle.out.specs.Answer.{outcome_of, written_as, Outputs}
use Rattle.sheet.specs.declared.Loaded.{Loaded}
use Rattle.sheet.specs.Loading.{Loads}
use Rattle.promises.proofs.Contracts.{told}
use Rattle.promises.proofs.Single.{written_apart}

-- the parts of an answer and its buffer
pub written_is : (r q : Result ℕ Unwritten) (new b : List ℕ) → written_as r new ≡ written_as q b
    → (number_of (told outcome_of r) ≡ number_of (told outcome_of q)) × (r ≡ q) × (new ≡ b)
written_is r q new b e = let a = written_apart r q new b e in (ap (λ (x : Result ℕ Unwritten). number_of (told outcome_of x)) a.0, a.0, a.1)

module _ (F : Content → List ℕ) (t : Table) (old : List ℕ) (r : Result ℕ Unwritten) (new : List ℕ) where
  pub data WriteAnswer : Type 0 where
    -- 0: all of the output, and past it the buffer as it was
    written : (c : Content) → meets c ≡ true → t ≡ store_table c → length (F c) ≤ length old
        → number_of (told outcome_of r) ≡ 0 → r ≡ Ok (length (F c)) → new ≡ F c ++ drop (length (F c)) old → WriteAnswer
    -- 8 and 9: nothing
    too_short : (c : Content) → meets c ≡ true → t ≡ store_table c → length old < length (F c)
        → number_of (told outcome_of r) ≡ 8 → r ≡ Err ShortBuffer → new ≡ old → WriteAnswer
    no_table : (Stored t → ⊥) → number_of (told outcome_of r) ≡ 9 → r ≡ Err WrongTable → new ≡ old → WriteAnswer

  pub write_answers : Outputs F t old r new → WriteAnswer
  unfolding written_as written_to overwritten number_of
  write_answers (stored c m e p) =
      cases_bool (ltb (length old) (length (F c)))
      (λ h. let q = written_is r (Err ShortBuffer) new old (p ∙ rw h) in too_short c m e (ltb-true _ _ h) q.0 q.1 q.2)
      (λ h. let q = written_is r (Ok (length (F c))) new (F c ++ drop (length (F c)) old) (p ∙ rw h) in written c m e (ltb-false _ _ h) q.0 q.1 q.2)
  write_answers (not_stored n p) = let q = written_is r (Err WrongTable) new old p in no_table n q.0 q.1 q.2

pub data LoadAnswer (bytes : List ℕ) (r : Loaded) : Type 0 where
  -- 0: some table writes these bytes; what it shows is held
  loaded : (c : Content) → meets c ≡ true → sheet c ≡ bytes → number_of r.outcome ≡ 0 → r.table ≡ store_table (just_shown c) → LoadAnswer bytes r
  -- 10: none does; the table is empty
  no_sheet : ((c : Content) → meets c ≡ true → sheet c ≡ bytes → ⊥) → number_of r.outcome ≡ 10 → r.table ≡ store_table nothing → LoadAnswer bytes r

load_by : (bytes : List ℕ) (r : Loaded) (left : Content) → Load bytes r.outcome left → r.table ≡ store_table left → LoadAnswer bytes r
unfolding number_of
load_by bytes r left (accepted c m s o l) e = loaded c m s (ap number_of o) (e ∙ ap store_table l)
load_by bytes r left (not_a_sheet n o l) e = no_sheet n (ap number_of o) (e ∙ ap store_table l)

pub load_sheet_answers : (bytes : List ℕ) (r : Loaded) → Loads bytes r → LoadAnswer bytes r
load_sheet_answers bytes r l = load_by bytes r l.left l.load l.stored

-- a refusal hands back the empty table
pub load_sheet_refused : (bytes : List ℕ) (r : Loaded) → LoadAnswer bytes r → (number_of r.outcome ≡ 0 → ⊥) → r.table ≡ store_table nothing
load_sheet_refused bytes r (loaded c m s o e) h = absurd (h o)
load_sheet_refused bytes r (no_sheet n o e) h = e
