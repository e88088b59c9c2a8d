-- The premises of Demand3 are needed: three pairs of receptions, computed. In this order: a 33rd key that finds room only in the
-- worse reception (over fields, since it takes 34 blocks); a block that is missing, where it should fail its check; what is
-- shown in the end, where it should be what comes to be shown at a field (both on bytes).
use Prim.Native.Nat.{ℕ, ◌+◌}
use native.Mathlib.Omega.{arith}
use mathlib.Core.Path.{◌≡◌, refl, ap}
use mathlib.Core.Bool.{Bool, true}
use mathlib.Core.List.{List, [], ◌∷◌, map}
use mathlib.Core.Option.{some}
use lib.ListN.{length, replicate}
use Rattle.rules.specs.declared.Note.{Note}
use Rattle.rules.specs.declared.Note.TheVariants.{Full, ShownAndOpened}
use Rattle.rules.specs.Block.{bits, bit, number, generator, shift, shifts, register, check_of, check_holds, after, walk, fig_at, figs}
use Rattle.rules.specs.Field.{is_linking, width, big_endian, identifiers, short_field, list_field, list_bytes, field_at, fields_of, key_of, pair, has_list, is_continuation, first_kind, start_pairs, pairs_of, named_by, wrong_value, empty_start}
use Rattle.rules.specs.Family.{Said, start, member, added, added_all, opening, extended, entry_with, started, continued, on_held, fresh, on_unheld, kept, effect, find, replace, insert, store, step, steps, closed, drop_open}
use Rattle.rules.specs.Collecting.{same_pair, join_names, linkage, IdSet, nothing, brings, act_of, said, next_block, Shown, showing, shown_sets}
use Rattle.rules.specs.Outcomes.{joined, all_fields, some?, judge_fields, judge_figs, verdict, answer_to, read_block}
use Rattle.pieces.specs.Air.{block_of}
use Rattle.rules.specs.Receptions.{Shows, ShowsIn, Op, takes, refuses, after_op}
use Rattle.promises.specs.Demand3.{Operation, block, after_one, fields_in, said_by, Worse, over, same, spoilt, ShowsAt}
use Rattle.rules.proofs.Runs.{run}
use Rattle.promises.proofs.Better.{shown_single}
use Rattle.promises.proofs.Calls.{after_all}

-- a set of DAB services
unfoldable pub dabs : List ℕ → IdSet
dabs ns = record { items = map (pair 0) ns; named = 0 }

-- ---- 33 keys

-- a start of key 2000 hex plus n, on, with one service
unfoldable pub start_of : ℕ → Said linkage
start_of n = record { key = 0x2000 + n; state = true; act = start (dabs (1 ∷ [])); stamp = n }

unfoldable pub alone_in_block : ℕ → Op linkage
alone_in_block n = takes (start_of n ∷ [])

-- 32 blocks that start keys 2002 to 2021
unfoldable pub others : List (Op linkage)
others = map alone_in_block (2 ∷ 3 ∷ 4 ∷ 5 ∷ 6 ∷ 7 ∷ 8 ∷ 9 ∷ 10 ∷ 11 ∷ 12 ∷ 13 ∷ 14 ∷ 15 ∷ 16 ∷ 17 ∷ 18 ∷ 19 ∷ 20 ∷ 21 ∷ 22 ∷ 23 ∷ 24 ∷ 25 ∷ 26 ∷ 27 ∷ 28 ∷ 29 ∷ 30 ∷ 31 ∷ 32 ∷ 33 ∷ [])

full_is_not : ◌≡◌ {A = Note} Full ShownAndOpened → ⊥
full_is_not h = let z : ◌≡◌ {A = ℕ} 0 1 = cc in omega arith

-- key 2001 first, then the others, then 2021 again: the table is full, and nothing comes to be shown. With the first block
-- refused, 2021 finds room, and the last block shows it
pub worse_finds_room : Shows linkage (run linkage [] (refuses ∷ others)) (start_of 33) 0x2021 true (dabs (1 ∷ []))
unfolding run after_op others alone_in_block start_of dabs pair member added added_all opening extended entry_with started continued on_held fresh on_unheld kept effect find replace insert store step steps closed drop_open same_pair join_names
worse_finds_room = record { noted = refl; draft = some (dabs (1 ∷ [])); found = refl }

pub better_is_full : (k : ℕ) (on : Bool) (l : IdSet) → Shows linkage (run linkage [] (alone_in_block 1 ∷ others)) (start_of 33) k on l → ⊥
unfolding run after_op others alone_in_block start_of dabs pair member added added_all opening extended entry_with started continued on_held fresh on_unheld kept effect find replace insert store step steps closed drop_open same_pair join_names
better_is_full k on l sh = full_is_not sh.noted

-- ---- a missing block

-- a start of key 2004 hex with one service, a continuation with one
unfoldable pub start_block : ℕ → List ℕ
start_block x = block_of (6 ∷ 6 ∷ 224 ∷ 4 ∷ 1 ∷ 0 ∷ x ∷ [])

unfoldable pub more_block : ℕ → List ℕ
more_block x = block_of (6 ∷ 134 ∷ 224 ∷ 4 ∷ 1 ∷ 0 ∷ x ∷ [])

-- start, continuation, start; nothing arrives in place of the continuation: half a list comes to be shown
pub half_is_shown : ShowsAt nothing (block (start_block 1) ∷ block [] ∷ block (start_block 1) ∷ []) 2 0 (record { key = 0x2004; on = true; set = dabs (1 ∷ []) })
unfolding ShowsAt ShowsIn said_by fields_in start_block dabs block_of bits bit number generator shift shifts register check_of check_holds after walk fig_at figs is_linking width big_endian identifiers short_field list_field list_bytes field_at fields_of key_of pair has_list is_continuation first_kind start_pairs pairs_of named_by wrong_value empty_start member added added_all opening extended entry_with started continued on_held fresh on_unheld kept effect find replace insert store step steps closed drop_open same_pair join_names brings act_of said next_block joined all_fields some? judge_fields judge_figs verdict answer_to read_block after_one mathlib.Core.Bool.xor mathlib.Core.List.zip_with
half_is_shown = record { noted = refl; draft = some (dabs (1 ∷ [])); found = refl }

pub whole_is_shown : ShowsAt nothing (block (start_block 1) ∷ block (more_block 2) ∷ block (start_block 1) ∷ []) 2 0 (record { key = 0x2004; on = true; set = dabs (1 ∷ 2 ∷ []) })
unfolding ShowsAt ShowsIn said_by fields_in start_block more_block dabs block_of bits bit number generator shift shifts register check_of check_holds after walk fig_at figs is_linking width big_endian identifiers short_field list_field list_bytes field_at fields_of key_of pair has_list is_continuation first_kind start_pairs pairs_of named_by wrong_value empty_start member added added_all opening extended entry_with started continued on_held fresh on_unheld kept effect find replace insert store step steps closed drop_open same_pair join_names brings act_of said next_block joined all_fields some? judge_fields judge_figs verdict answer_to read_block after_one mathlib.Core.Bool.xor mathlib.Core.List.zip_with
whole_is_shown = record { noted = refl; draft = some (dabs (1 ∷ [])); found = refl }

pub half_is_not : ShowsAt nothing (block (start_block 1) ∷ block (more_block 2) ∷ block (start_block 1) ∷ []) 2 0 (record { key = 0x2004; on = true; set = dabs (1 ∷ []) }) → ⊥
unfolding dabs
half_is_not sh =
    let e = shown_single nothing (block (start_block 1) ∷ block (more_block 2) ∷ block (start_block 1) ∷ []) 2 0 _ _ sh whole_is_shown in
    let n : ◌≡◌ {A = ℕ} 1 2 = ap (λ (s : Shown). length s.set.items) e in
    omega arith

-- ---- what is shown in the end

-- starts with service 1 twice, then with service 2 twice; the third block fails its check
abbrev better : List Operation
better = block (start_block 1) ∷ block (start_block 1) ∷ block (start_block 2) ∷ block (start_block 2) ∷ []

abbrev worse : List Operation
worse = block (start_block 1) ∷ block (start_block 1) ∷ block (replicate 32 0) ∷ block (start_block 2) ∷ []

pub is_worse : Worse better worse
unfolding start_block block_of bits bit number generator shift shifts register check_of check_holds mathlib.Core.Bool.xor mathlib.Core.List.zip_with
is_worse = same _ (same _ (spoilt _ _ refl refl refl (same _ over)))

-- the better one then shows the second set, the worse one still the first
pub better_shows : shown_sets (after_all nothing better).sets ≡ record { key = 0x2004; on = true; set = dabs (2 ∷ []) } ∷ []
unfolding after_all showing shown_sets start_block dabs block_of bits bit number generator shift shifts register check_of check_holds after walk fig_at figs is_linking width big_endian identifiers short_field list_field list_bytes field_at fields_of key_of pair has_list is_continuation first_kind start_pairs pairs_of named_by wrong_value empty_start member added added_all opening extended entry_with started continued on_held fresh on_unheld kept effect find replace insert store step steps closed drop_open same_pair join_names brings act_of said next_block joined all_fields some? judge_fields judge_figs verdict answer_to read_block after_one mathlib.Core.Bool.xor mathlib.Core.List.zip_with
better_shows = refl

pub worse_shows : shown_sets (after_all nothing worse).sets ≡ record { key = 0x2004; on = true; set = dabs (1 ∷ []) } ∷ []
unfolding after_all showing shown_sets start_block dabs block_of bits bit number generator shift shifts register check_of check_holds after walk fig_at figs is_linking width big_endian identifiers short_field list_field list_bytes field_at fields_of key_of pair has_list is_continuation first_kind start_pairs pairs_of named_by wrong_value empty_start member added added_all opening extended entry_with started continued on_held fresh on_unheld kept effect find replace insert store step steps closed drop_open same_pair join_names brings act_of said next_block joined all_fields some? judge_fields judge_figs verdict answer_to read_block after_one mathlib.Core.Bool.xor mathlib.Core.List.zip_with
worse_shows = refl
