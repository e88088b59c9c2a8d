-- What the answers of write_sheet and load_sheet promise together (document 01, The stored sheet; demand 2). In order: at most
-- 24,801 bytes are written; as many are always enough; what was written loads (`write_sheet_loads`), and what was loaded is
-- written again as it was (`load_sheet_writes`).
use Prim.Native.Nat.{ℕ, ◌≤◌}
use mathlib.Core.Path.{◌≡◌, ap, ◌∙◌, subst}
use mathlib.Core.Bool.{true}
use mathlib.Core.List.{List}
use lib.ListN.{length, take}
use Rattle.rules.specs.declared.Outcome.TheVariants.{Done}
use Rattle.rules.specs.Collecting.{Content, meets}
use Rattle.rules.specs.Outcomes.{number_of, overwritten}
use Rattle.layout.specs.Sheet.{sheet, just_shown, Load}
use Rattle.layout.proofs.Laws.{sheet_most, load_meets, load_written, load_again}
use Rattle.table.specs.declared.Table.{Table}
use Rattle.table.specs.Stored.{store_table, Stored}
use Rattle.std.specs.Prelude.{Result, Ok}
use Rattle.out.specs.declared.Unwritten.{Unwritten}
use Rattle.out.proofs.Answers.{output_bytes}
use Rattle.sheet.specs.declared.Loaded.{Loaded}
use Rattle.sheet.specs.Loading.{Loads}
use Rattle.out.specs.Answer.{outcome_of}
use Rattle.promises.proofs.Contracts.{told, size_of, WritesSheet}
use Rattle.promises.proofs.Written.{write_sheet_answers}
use Rattle.promises.proofs.Buffers.{write_done, write_most, write_enough}

module _ (t : Table) (old : List ℕ) (r : Result ℕ Unwritten) (new : List ℕ) (w : WritesSheet t old r new) where
  pub write_sheet_size : size_of r ≤ 24801
  write_sheet_size = write_most sheet t old r new 24801 sheet_most (write_sheet_answers t old r new w)

  pub write_sheet_enough : Stored t → 24801 ≤ length old → number_of (told outcome_of r) ≡ 0
  write_sheet_enough = write_enough sheet t old r new 24801 sheet_most (write_sheet_answers t old r new w)

-- the bytes that were written load as the shown sets, with no open list
pub write_sheet_loads : (t : Table) (old : List ℕ) (n : ℕ) (new : List ℕ) → WritesSheet t old (Ok n) new
    → (c : Content) → meets c ≡ true → t ≡ store_table c
    → (q : Loaded) → Loads (take n new) q → (q.outcome ≡ Done) × (q.table ≡ store_table (just_shown c))
write_sheet_loads t old n new w c m e q a =
    let b = output_bytes sheet t old n new w c m e in
    let l = load_written c m (subst (λ (bytes : List ℕ). Load bytes q.outcome a.left) b a.load) in
    (l.0, a.stored ∙ ap store_table l.1)

-- what was loaded is written as the same bytes
pub load_sheet_writes : (bytes old : List ℕ) (q : Loaded) (r : Result ℕ Unwritten) (new : List ℕ) → Loads bytes q → q.outcome ≡ Done
    → WritesSheet q.table old r new → length bytes ≤ length old
    → (number_of (told outcome_of r) ≡ 0) × (r ≡ Ok (length bytes)) × (new ≡ overwritten bytes old)
load_sheet_writes bytes old q r new a o w h =
    let e : sheet a.left ≡ bytes = load_again (rw o at a.load) in
    rw e at (write_done sheet q.table old r new w a.left (load_meets a.load) a.stored (rw e h))
