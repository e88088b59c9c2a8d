-- Totals (document 02, R-7). In order: of every table that meets the rules the stored figures are the sums over the sets that stand in
-- it; so after every block, recording, forgetting and load (of runs of calls: Demand2.antt); a table with a wrong figure is 9 for
-- whatever is given it.
use Prim.Native.Nat.{ℕ, ◌<◌}
use mathlib.Core.Path.{◌≡◌, sym, ap, ◌∙◌}
use mathlib.Core.List.{List}
use lib.ListN.{get_or}
use Rattle.rules.specs.Collecting.{Content}
use Rattle.rules.proofs.TableRules.{sets_meet_law}
use Rattle.sets.specs.Shown.{sets_in}
use Rattle.sets.proofs.ShownLaws.{sets_stored}
use Rattle.totals.specs.Totals.{sums, totals_of}
use Rattle.table.specs.declared.Table.{Table}
use Rattle.table.specs.declared.Forgotten.{Forgotten}
use Rattle.table.specs.Stored.{Stored, Given, stored, not_stored}
use Rattle.reading.specs.declared.Answer.{Answer}
use Rattle.reading.specs.declared.Recorded.{Recorded}
use Rattle.sheet.specs.declared.Loaded.{Loaded}
use Rattle.sheet.specs.Loading.{Loads}
use Rattle.promises.proofs.Contracts.{ReadsBlock, ReadsRecording, Forgets}
use Rattle.promises.proofs.Kept.{read_block_keeps, read_recording_keeps, forget_key_keeps, load_sheet_meets}

-- the stored figures are the sums over the sets that stand in the table
abbrev pub RightTotals : Table → Type 0
RightTotals t = t.totals ≡ sums (sets_in t.sets)

pub stored_totals : (t : Table) → Stored t → RightTotals t
unfolding Stored totals_of
stored_totals t s =
    ap (λ (u : Table). u.totals) s.2 ∙ ap sums (sym (sets_stored s.0.sets (sets_meet_law s.0 s.1)))
    ∙ sym (ap (λ (u : Table). sums (sets_in u.sets)) s.2)

pub read_block_totals : (t : Table) (fib : List ℕ) (r : Answer) → ((i : ℕ) → get_or fib i 0 < 256) → Stored t → ReadsBlock t fib r → RightTotals r.table
read_block_totals t fib r b s a = stored_totals r.table (read_block_keeps t fib r b s a)

pub read_recording_totals : (t : Table) (bytes : List ℕ) (r : Recorded) → ((i : ℕ) → get_or bytes i 0 < 256) → Stored t → ReadsRecording t bytes r
    → RightTotals r.table
read_recording_totals t bytes r b s a = stored_totals r.table (read_recording_keeps t bytes r b s a)

pub forget_key_totals : (t : Table) (k : ℕ) (r : Forgotten) → Stored t → Forgets t k r → RightTotals r.table
forget_key_totals t k r s a = stored_totals r.table (forget_key_keeps t k r s a)

-- of a loaded table, whatever the bytes
pub load_sheet_totals : (bytes : List ℕ) (r : Loaded) → Loads bytes r → RightTotals r.table
load_sheet_totals bytes r a = stored_totals r.table (load_sheet_meets bytes r a)

-- a wrong figure is no stored form, and so what is owed of a table that breaks the rules is owed of it, in every contract
pub wrong_totals : {t : Table} {right : Content → Type 0} {otherwise : Type 0} → (RightTotals t → ⊥) → Given t right otherwise → otherwise
unfolding Stored
wrong_totals {t} w (stored c m e a) = absurd (w (stored_totals t (c, m, e)))
wrong_totals w (not_stored n a) = a
