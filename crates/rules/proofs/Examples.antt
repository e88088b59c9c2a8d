-- The starred examples 1 to 12 of document 01, both halves of 10, and one with OE 1 (document 02, R-3), once and again, as one table: blocks
-- with their check bytes, as the second program under tests/ makes them, and what reading them into the empty table answers and leaves.
-- One statement, computed.
use Prim.Native.Nat.{ℕ}
use mathlib.Core.Path.{◌≡◌, refl}
use mathlib.Core.Bool.{Bool, true, false}
use mathlib.Core.List.{List, [], ◌∷◌, map}
use mathlib.Core.Option.{Option, none, some}
use Rattle.rules.specs.declared.Outcome.TheVariants.{Done}
use Rattle.rules.specs.Block.{bits, bit, number, generator, shift, shifts, register, check_of, check_holds, after, walk, fig_at, figs}
use Rattle.rules.specs.Field.{is_linking, width, big_endian, identifiers, short_field, list_field, list_bytes, field_at, fields_of, key_of, pair, has_list, is_continuation, first_kind, start_pairs, pairs_of, named_by, wrong_value, empty_start}
use Rattle.rules.specs.Family.{member, added, added_all, opening, extended, entry_with, started, continued, on_held, fresh, on_unheld, kept, effect, find, replace, insert, store, step, steps, closed, drop_open}
use Rattle.rules.specs.Collecting.{same_pair, join_names, IdSet, Content, nothing, next_block, brings, act_of, said}
use Rattle.rules.specs.Outcomes.{number_of, note_number, Answer, joined, all_fields, some?, first_place, judge_fields, judge_figs, verdict, answer_to, read_block}

-- an example: blocks, read one after the other into the empty table, and the answer to the last of them
pub record Example : Type 0 where
  pub blocks : List (List ℕ)
  pub outcome : ℕ
  pub place : ℕ
  pub notes : List ℕ
  pub left : Content

-- an answer by its numbers
pub record Numbered : Type 0 where
  pub outcome : ℕ
  pub place : ℕ
  pub notes : List ℕ
  pub left : Content

unfoldable pub last_answer : Answer → List (List ℕ) → Answer
last_answer a [] = a
last_answer a (b ∷ bs) = last_answer (read_block a.left b) bs

-- the table is empty at the start
unfoldable pub given : Example → Numbered
given x =
    let a = last_answer (record { outcome = Done; place = 0; notes = []; left = nothing }) x.blocks in
    record { outcome = number_of a.outcome; place = a.place; notes = map note_number a.notes; left = a.left }

unfoldable pub expected : Example → Numbered
expected x = record { outcome = x.outcome; place = x.place; notes = x.notes; left = x.left }

abbrev linked : List ℕ
linked = 8 ∷ 6 ∷ 224 ∷ 4 ∷ 34 ∷ 68 ∷ 177 ∷ 68 ∷ 177 ∷ 255 ∷ 0 ∷ 0 ∷ 0 ∷ 0 ∷ 0 ∷ 0 ∷ 0 ∷ 0 ∷ 0 ∷ 0 ∷ 0 ∷ 0 ∷ 0 ∷ 0 ∷ 0 ∷ 0 ∷ 0 ∷ 0 ∷ 0 ∷ 0 ∷ 195 ∷ 97 ∷ []

abbrev short : List ℕ
short = 3 ∷ 6 ∷ 32 ∷ 4 ∷ 255 ∷ 0 ∷ 0 ∷ 0 ∷ 0 ∷ 0 ∷ 0 ∷ 0 ∷ 0 ∷ 0 ∷ 0 ∷ 0 ∷ 0 ∷ 0 ∷ 0 ∷ 0 ∷ 0 ∷ 0 ∷ 0 ∷ 0 ∷ 0 ∷ 0 ∷ 0 ∷ 0 ∷ 0 ∷ 0 ∷ 35 ∷ 236 ∷ []

abbrev failing : List ℕ
failing = 255 ∷ 0 ∷ 0 ∷ 0 ∷ 0 ∷ 0 ∷ 0 ∷ 0 ∷ 0 ∷ 0 ∷ 0 ∷ 0 ∷ 0 ∷ 0 ∷ 0 ∷ 0 ∷ 0 ∷ 0 ∷ 0 ∷ 0 ∷ 0 ∷ 0 ∷ 0 ∷ 0 ∷ 0 ∷ 0 ∷ 0 ∷ 0 ∷ 0 ∷ 0 ∷ 168 ∷ 169 ∷ []

-- DAB 44B1 and RDS 44B1, RDS named
abbrev pub two : IdSet
two = record { items = pair 0 0x44B1 ∷ pair 1 0x44B1 ∷ []; named = 1 }

-- after so many blocks, key 2004 with a state, a shown set and the number of the block at which it was last shown, and an open list
abbrev pub E : ℕ → Bool → Option IdSet → ℕ → Option IdSet → Content
E n on shown p draft = record { sets = record { key = 0x2004; state = on; shown = shown; draft = draft; stamp = p } ∷ []; blocks = n }

-- after so many blocks, nothing
abbrev pub N : ℕ → Content
N n = record { sets = []; blocks = n }

-- example 1's list with OE 1 and another second number: key A004 of another ensemble, RDS 44B1 and RDS 43B1
abbrev pub other : List ℕ
other = 8 ∷ 70 ∷ 224 ∷ 4 ∷ 34 ∷ 68 ∷ 177 ∷ 67 ∷ 177 ∷ 255 ∷ 0 ∷ 0 ∷ 0 ∷ 0 ∷ 0 ∷ 0 ∷ 0 ∷ 0 ∷ 0 ∷ 0 ∷ 0 ∷ 0 ∷ 0 ∷ 0 ∷ 0 ∷ 0 ∷ 0 ∷ 0 ∷ 0 ∷ 0 ∷ 38 ∷ 46 ∷ []

abbrev pub codes : IdSet
codes = record { items = pair 1 0x44B1 ∷ pair 1 0x43B1 ∷ []; named = 1 }

abbrev pub O : ℕ → Option IdSet → ℕ → Option IdSet → Content
O n shown p draft = record { sets = record { key = 0xA004; state = true; shown = shown; draft = draft; stamp = p } ∷ []; blocks = n }

-- the blocks and what they should give
unfoldable pub examples : List Example
unfolding pair
examples =
    -- 1: a start: key 2004 opened, list DAB 44B1, RDS 44B1, nothing shown
    record { blocks = linked ∷ []; outcome = 0; place = 0; notes = 1 ∷ []; left = E 1 true none 0 (some two) } ∷
    -- 2: the same again: shown, on, RDS named
    record { blocks = linked ∷ linked ∷ []; outcome = 0; place = 0; notes = 2 ∷ []; left = E 2 true (some two) 2 (some two) } ∷
    -- 3: then the short form with LA 0: off, list the same
    record { blocks = linked ∷ linked ∷ short ∷ []; outcome = 0; place = 0; notes = 7 ∷ []; left = E 3 false (some two) 2 (some two) } ∷
    -- 4: a failing check in between: nothing shown
    record { blocks = linked ∷ failing ∷ linked ∷ []; outcome = 0; place = 0; notes = 1 ∷ []; left = E 3 true none 0 (some two) } ∷
    -- 5: first data byte FF: done, no notes
    record { blocks = (255 ∷ 0 ∷ 0 ∷ 0 ∷ 0 ∷ 0 ∷ 0 ∷ 0 ∷ 0 ∷ 0 ∷ 0 ∷ 0 ∷ 0 ∷ 0 ∷ 0 ∷ 0 ∷ 0 ∷ 0 ∷ 0 ∷ 0 ∷ 0 ∷ 0 ∷ 0 ∷ 0 ∷ 0 ∷ 0 ∷ 0 ∷ 0 ∷ 0 ∷ 0 ∷ 168 ∷ 168 ∷ []) ∷ []; outcome = 0; place = 0; notes = []; left = N 1 } ∷
    -- 6: first byte 00: 3, at that byte
    record { blocks = (0 ∷ 255 ∷ 0 ∷ 0 ∷ 0 ∷ 0 ∷ 0 ∷ 0 ∷ 0 ∷ 0 ∷ 0 ∷ 0 ∷ 0 ∷ 0 ∷ 0 ∷ 0 ∷ 0 ∷ 0 ∷ 0 ∷ 0 ∷ 0 ∷ 0 ∷ 0 ∷ 0 ∷ 0 ∷ 0 ∷ 0 ∷ 0 ∷ 0 ∷ 0 ∷ 130 ∷ 237 ∷ []) ∷ []; outcome = 3; place = 0; notes = []; left = N 1 } ∷
    -- 7: a field of one byte: 4, at that byte
    record { blocks = (2 ∷ 6 ∷ 32 ∷ 255 ∷ 0 ∷ 0 ∷ 0 ∷ 0 ∷ 0 ∷ 0 ∷ 0 ∷ 0 ∷ 0 ∷ 0 ∷ 0 ∷ 0 ∷ 0 ∷ 0 ∷ 0 ∷ 0 ∷ 0 ∷ 0 ∷ 0 ∷ 0 ∷ 0 ∷ 0 ∷ 0 ∷ 0 ∷ 0 ∷ 0 ∷ 7 ∷ 56 ∷ []) ∷ []; outcome = 4; place = 2; notes = []; left = N 1 } ∷
    -- 8: LSN 0: 5, at the field's first byte
    record { blocks = (3 ∷ 6 ∷ 32 ∷ 0 ∷ 255 ∷ 0 ∷ 0 ∷ 0 ∷ 0 ∷ 0 ∷ 0 ∷ 0 ∷ 0 ∷ 0 ∷ 0 ∷ 0 ∷ 0 ∷ 0 ∷ 0 ∷ 0 ∷ 0 ∷ 0 ∷ 0 ∷ 0 ∷ 0 ∷ 0 ∷ 0 ∷ 0 ∷ 0 ∷ 0 ∷ 118 ∷ 116 ∷ []) ∷ []; outcome = 5; place = 2; notes = []; left = N 1 } ∷
    -- 9: a start with count 0: 6, at the field's first byte
    record { blocks = (4 ∷ 6 ∷ 224 ∷ 4 ∷ 0 ∷ 255 ∷ 0 ∷ 0 ∷ 0 ∷ 0 ∷ 0 ∷ 0 ∷ 0 ∷ 0 ∷ 0 ∷ 0 ∷ 0 ∷ 0 ∷ 0 ∷ 0 ∷ 0 ∷ 0 ∷ 0 ∷ 0 ∷ 0 ∷ 0 ∷ 0 ∷ 0 ∷ 0 ∷ 0 ∷ 224 ∷ 165 ∷ []) ∷ []; outcome = 6; place = 2; notes = []; left = N 1 } ∷
    -- 10: a field without a list, then a lone byte: 4, at that byte
    record { blocks = (4 ∷ 38 ∷ 54 ∷ 224 ∷ 4 ∷ 255 ∷ 0 ∷ 0 ∷ 0 ∷ 0 ∷ 0 ∷ 0 ∷ 0 ∷ 0 ∷ 0 ∷ 0 ∷ 0 ∷ 0 ∷ 0 ∷ 0 ∷ 0 ∷ 0 ∷ 0 ∷ 0 ∷ 0 ∷ 0 ∷ 0 ∷ 0 ∷ 0 ∷ 0 ∷ 34 ∷ 9 ∷ []) ∷ []; outcome = 4; place = 4; notes = []; left = N 1 } ∷
    -- 10: with 00 directly after it: 3, at that byte, where the next FIG should begin
    record { blocks = (4 ∷ 38 ∷ 54 ∷ 224 ∷ 4 ∷ 0 ∷ 255 ∷ 0 ∷ 0 ∷ 0 ∷ 0 ∷ 0 ∷ 0 ∷ 0 ∷ 0 ∷ 0 ∷ 0 ∷ 0 ∷ 0 ∷ 0 ∷ 0 ∷ 0 ∷ 0 ∷ 0 ∷ 0 ∷ 0 ∷ 0 ∷ 0 ∷ 0 ∷ 0 ∷ 164 ∷ 200 ∷ []) ∷ []; outcome = 3; place = 5; notes = []; left = N 1 } ∷
    -- 11: 31 bytes: 1, open lists kept
    record { blocks = linked ∷ (8 ∷ 6 ∷ 224 ∷ 4 ∷ 34 ∷ 68 ∷ 177 ∷ 68 ∷ 177 ∷ 255 ∷ 0 ∷ 0 ∷ 0 ∷ 0 ∷ 0 ∷ 0 ∷ 0 ∷ 0 ∷ 0 ∷ 0 ∷ 0 ∷ 0 ∷ 0 ∷ 0 ∷ 0 ∷ 0 ∷ 0 ∷ 0 ∷ 0 ∷ 0 ∷ 195 ∷ []) ∷ []; outcome = 1; place = 0; notes = []; left = E 1 true none 0 (some two) } ∷
    -- 12: a FIG that fills the block, of another extension: done, no notes
    record { blocks = (29 ∷ 1 ∷ 0 ∷ 0 ∷ 0 ∷ 0 ∷ 0 ∷ 0 ∷ 0 ∷ 0 ∷ 0 ∷ 0 ∷ 0 ∷ 0 ∷ 0 ∷ 0 ∷ 0 ∷ 0 ∷ 0 ∷ 0 ∷ 0 ∷ 0 ∷ 0 ∷ 0 ∷ 0 ∷ 0 ∷ 0 ∷ 0 ∷ 0 ∷ 0 ∷ 209 ∷ 55 ∷ []) ∷ []; outcome = 0; place = 0; notes = []; left = N 1 } ∷
    -- OE 1: the first number of an RDS list is an FM code like the rest
    record { blocks = other ∷ []; outcome = 0; place = 0; notes = 1 ∷ []; left = O 1 none 0 (some codes) } ∷
    -- and again: it is shown
    record { blocks = other ∷ other ∷ []; outcome = 0; place = 0; notes = 2 ∷ []; left = O 2 (some codes) 2 (some codes) } ∷
    []

-- each of them gives what it should
pub examples_hold : map given examples ≡ map expected examples
unfolding examples given expected number_of note_number last_answer bits bit number generator shift shifts register check_of check_holds after walk fig_at figs is_linking width big_endian identifiers short_field list_field list_bytes field_at fields_of key_of pair has_list is_continuation first_kind start_pairs pairs_of named_by wrong_value empty_start member added added_all opening extended entry_with started continued on_held fresh on_unheld kept effect find replace insert store step steps closed drop_open same_pair join_names brings act_of said next_block joined all_fields some? first_place judge_fields judge_figs verdict answer_to read_block mathlib.Core.Bool.xor mathlib.Core.List.zip_with
examples_hold = refl
