-- Document 01 as it stood before document 02's R-3: the first identifier of every start is a DAB service, whatever its OE, and every
-- set begins with one. No contract cites these; proofs/Before.antt says what of them still holds.
use Rattle.std.specs.Prelude.{ℕ, zero, suc, ◌/◌, Bool, true, cond, ◌&&◌, List, [], ◌∷◌, map, length, take, drop, leb, ltb, eqb}
use Rattle.rules.specs.declared.Outcome.TheVariants.{Done}
use Rattle.rules.specs.Field.{Field, key_of, Pair, pair, dab, start_pairs, named_by, has_list, is_continuation}
use Rattle.rules.specs.Family.{start, continuation, no_list, Said, steps, Rules, table_meets}
use Rattle.rules.specs.Collecting.{linkage, IdSet, Content, next_block, after_block, is_key, key_width, not_empty, all_differ, pairs_meet, names_meet, number_meets, numbers_within, most_ids, most_blocks}
use Rattle.rules.specs.Outcomes.{Verdict, taken, refused, no_block, verdict, Answer, answer_to}

-- ---- reading

-- the identifiers of a field, and what it brings and says
unfoldable pub pairs_before : Field → List Pair
pairs_before f = cond (is_continuation f) (map (pair f.qualifier) f.numbers) (start_pairs dab f.qualifier f.numbers)

unfoldable pub brings_before : Field → IdSet
brings_before f = record { items = pairs_before f; named = named_by f.qualifier }

unfoldable pub said_before : ℕ → Field → Said linkage
said_before n f =
    record {
      key = key_of f;
      state = eqb f.la 1;
      act = cond (has_list f) (cond (is_continuation f) (continuation (brings_before f)) (start (brings_before f))) no_list;
      stamp = n;
    }

-- a block: what is refused has not changed
unfoldable pub answer_before : Content → Verdict → Answer
answer_before t (taken fs) =
    let r = steps linkage t.sets (map (said_before (next_block t.blocks)) fs) in
    record { outcome = Done; place = 0; notes = r.1; left = after_block t r.0 }
answer_before t (refused o p) = answer_to t (refused o p)
answer_before t no_block = answer_to t no_block

unfoldable pub block_before : Content → List ℕ → Answer
block_before t fib = answer_before t (verdict fib)

-- a recording
unfoldable pub blocks_before : ℕ → Content → List ℕ → Content
blocks_before zero t bytes = t
blocks_before (suc n) t bytes = blocks_before n (block_before t (take 32 bytes)).left (drop 32 bytes)

unfoldable pub recording_before : Content → List ℕ → Content
recording_before t bytes = blocks_before (length bytes / 32) t bytes

-- ---- the table rules

unfoldable pub begins_dab : List Pair → Bool
begins_dab [] = true
begins_dab (p ∷ ps) = eqb p.kind dab

unfoldable pub set_before : ℕ → IdSet → Bool
set_before k l =
    leb (length l.items) most_ids && not_empty l.items && begins_dab l.items && all_differ l.items
    && pairs_meet (key_width k) l.named l.items && names_meet k l.named

abbrev pub rules_before : Rules linkage
rules_before =
    record {
      key_meets = is_key;
      list_meets = set_before;
      stamp_meets = number_meets;
      begins = ltb 0;
    }

unfoldable pub met_before : Content → Bool
met_before t = table_meets linkage rules_before t.sets && numbers_within t.blocks t.sets && leb t.blocks most_blocks
