-- A caller has exactly what the rules say of the blocks and forgettings so far, and what is written reads back to the same sets (document
-- 00, demand 2). Below, of calls of read_block and forget_key, in order: from any table that meets the table rules; the totals then; the
-- numbers of blocks, and the count; from the empty one; that there are such calls. The rest is handed on from where it is proved.
use Prim.Native.Nat.{ℕ, ◌+◌, min}
use mathlib.Core.Path.{◌≡◌, refl, sym, ap, ap₂, ◌∙◌}
use mathlib.Core.List.{List, [], ◌∷◌}
use Rattle.rules.specs.Collecting.{IdSet, Content, nothing, most_blocks}
use Rattle.rules.specs.Outcomes.{read_block}
use Rattle.promises.specs.Demand3.{Operation, block, forgetting, after_one}
use Rattle.promises.specs.Numbers.{blocks_in, LastConfirmed}
use Rattle.rules.proofs.Basics.{Every}
use Rattle.rules.proofs.TableRules.{content_meets, nothing_meets}
use Rattle.table.specs.declared.Table.{Table}
use Rattle.table.specs.declared.Copied.{Copied}
use Rattle.table.specs.Stored.{store_table, Stored, stored}
use Rattle.table.specs.Answers.{forgotten_as}
use Rattle.reading.specs.Runs.{run_as}
use Rattle.std.specs.Prelude.{Ok}
use Rattle.promises.proofs.Contracts.{ReadsBlock, Forgets, CopiesOut}
use Rattle.promises.proofs.Answers.{Stores}
use Rattle.promises.proofs.Calls.{Reply, Calls, ended, reads, forgets, OfBytes, after_all, replies_to}
use Rattle.promises.proofs.CallLaws.{read_call, forget_call}
use Rattle.promises.proofs.Numbers.{count_is, copied_confirmed}
-- what is handed back meets the table rules, in its one stored form
pub use Rattle.promises.proofs.Kept.{read_block_keeps, read_recording_keeps, forget_key_keeps, load_sheet_meets, empty_meets}
-- what is written for air, read twice into an empty table; what is written as a sheet, loaded, and what is loaded, written
pub use Rattle.promises.proofs.AirWritten.{write_air_shows, write_air_shows_twice_over, write_air_reads_back}
pub use Rattle.promises.proofs.SheetWritten.{write_sheet_loads, load_sheet_writes}
-- the totals of what is handed back are the sums over its sets; a wrong figure is 9 (document 02, R-7)
pub use Rattle.promises.proofs.Totals.{RightTotals, stored_totals, read_block_totals, read_recording_totals, forget_key_totals, load_sheet_totals, wrong_totals}
-- the numbers of blocks: none above a table's own count, none without a set, either is 9; a loaded table has none (document 02, R-9)
pub use Rattle.promises.proofs.Numbers.{last_confirmed, from_empty, stored_within, stored_unshown, number_above, number_alone, load_sheet_unnumbered}
-- and apart from them a recording leaves what it left before there were any
pub use Rattle.rules.proofs.Numbers.{plain_recording_law}

-- From a table that stores a content, calls end in the table that stores what the rules make of that content (which meets the table
-- rules again), and on the way they are answered what the rules say.
pub calls_hold : {t u : Table} {ops : List Operation} {rs : List Reply} (c : Content) → Stores t c → Every OfBytes ops → Calls t ops rs u
    → Stores u (after_all c ops) × (rs ≡ replies_to c ops)
unfolding after_all replies_to
calls_hold c s b ended = (s, refl)
calls_hold c s b (reads {fib} r x xs) =
    let one = read_call c fib r s b.0 x in
    let rest = calls_hold (after_one c (block fib)) one.0 b.1 xs in
    (rest.0, ap₂ ◌∷◌ one.1 rest.1)
calls_hold c s b (forgets {k} r x xs) =
    let one = forget_call c k r s x in
    let rest = calls_hold (after_one c (forgetting k)) one.0 b.1 xs in
    (rest.0, ap₂ ◌∷◌ one.1 rest.1)

-- So the totals of the table in which they end are the sums over its sets.
pub calls_totals : {t u : Table} {ops : List Operation} {rs : List Reply} (c : Content) → Stores t c → Every OfBytes ops → Calls t ops rs u
    → RightTotals u
unfolding Stored
calls_totals {u = u} {ops = ops} c s b xs = let e = (calls_hold c s b xs).0 in stored_totals u (after_all c ops, e.0, e.1)

-- And of that table a set that copy_out gives has the number of the last block at which a set of its key came to be shown, counted on from
-- the count of the first table; or it was shown before the calls, and no set of its key came to be shown in them (document 02, R-9).
pub calls_confirmed : {t u : Table} {ops : List Operation} {rs : List Reply} (c : Content) → Stores t c → Every OfBytes ops → Calls t ops rs u
    → (k : ℕ) (ns ks : List ℕ) (r : Copied) (ms js : List ℕ) → CopiesOut u k ns ks (Ok r) ms js
    → (l : IdSet) × LastConfirmed c ops k l r.confirmed
calls_confirmed {ops = ops} c s b xs = copied_confirmed c ops s.0 (calls_hold c s b xs).0

-- The table's own count is then so many blocks of 32 bytes more, up to its stop.
pub calls_counted : {t u : Table} {ops : List Operation} {rs : List Reply} (c : Content) → Stores t c → Every OfBytes ops → Calls t ops rs u
    → u.blocks ≡ min (t.blocks + blocks_in ops) most_blocks
calls_counted {u = u} {ops = ops} c s b xs =
    ap (λ (x : Table). x.blocks) (calls_hold c s b xs).0.1 ∙ count_is c ops ((content_meets c).0 s.0).most
    ∙ ap (λ (x : Table). min (x.blocks + blocks_in ops) most_blocks) (sym s.1)

-- From the table that holds nothing.
pub calls_hold_from_empty : {u : Table} {ops : List Operation} {rs : List Reply} → Every OfBytes ops → Calls (store_table nothing) ops rs u
    → Stores u (after_all nothing ops) × (rs ≡ replies_to nothing ops)
calls_hold_from_empty b xs = calls_hold nothing (nothing_meets, refl) b xs

-- And there are such calls, whatever the operations: the contracts admit this run and, by the above, no other.
pub calls_exist : {t : Table} (c : Content) (ops : List Operation) → Stores t c → Every OfBytes ops
    → Calls t ops (replies_to c ops) (store_table (after_all c ops))
unfolding after_all replies_to
calls_exist c [] s b = rw s.1 ended
calls_exist {t} c (block fib ∷ os) s b =
    let x : ReadsBlock t fib (run_as (read_block c fib)) = stored c s.0 s.1 refl in
    let one = read_call c fib (run_as (read_block c fib)) s b.0 x in
    rw (← one.1) (reads (run_as (read_block c fib)) x (calls_exist {t = (run_as (read_block c fib)).table} (after_one c (block fib)) os one.0 b.1))
calls_exist {t} c (forgetting k ∷ os) s b =
    let x : Forgets t k (forgotten_as k c) = stored c s.0 s.1 refl in
    let one = forget_call c k (forgotten_as k c) s x in
    rw (← one.1) (forgets (forgotten_as k c) x (calls_exist {t = (forgotten_as k c).table} (after_one c (forgetting k)) os one.0 b.1))
