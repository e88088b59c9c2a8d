-- What of writing for air is as it was before document 02's R-3: with OE 0 alone, byte for byte the same output, of any such table and of
-- any such recording.
use Prim.Native.Nat.{ℕ, ◌/◌, ◌<◌}
use native.Mathlib.Omega.{arith}
use mathlib.Core.Path.{◌≡◌, refl, ap, ◌∙◌}
use mathlib.Core.Bool.{true, false}
use mathlib.Core.List.{List, [], ◌∷◌, map}
use lib.ListN.{length, get_or}
use Rattle.rules.specs.Field.{Pair, kind_in, first_kind}
use Rattle.rules.specs.Collecting.{Entries, Content, Shown, showing, shown_sets, meets, key_width, oe_of, first_of, begins_right}
use Rattle.rules.specs.Outcomes.{read_recording}
use Rattle.rules.specs.Before.{recording_before}
use Rattle.pieces.specs.Air.{Piece, piece_most, piece_with, chop, start_qualifier, cut, pieces, set_blocks, all_blocks, air}
use Rattle.pieces.specs.Before.{cut_before, pieces_before, blocks_before, air_before}
use Rattle.rules.proofs.Basics.{cases-option, Every}
use Rattle.rules.proofs.TableRules.{set_rules}
use Rattle.rules.proofs.LinkageLaws.{bytes_list, recording_keeps}
use Rattle.rules.proofs.Before.{TunedBlocks, recording_before_law, TunedKey, TunedKeys, keys_recording}
use Rattle.pieces.proofs.Cutting.{most_room, chop_on, start_next}
use Rattle.pieces.proofs.ReadBack.{InOrder, shown_order}

-- a set of a key with OE 0 is cut as it was
pub cut_before_law : (k : ℕ) (ps : List Pair) → oe_of k ≡ 0 → begins_right k ps ≡ true → cut k ps ≡ cut_before (piece_most (key_width k)) ps
unfolding cut cut_before begins_right kind_in
cut_before_law k [] z h = refl
cut_before_law k (p ∷ []) z h = unfold start_qualifier first_of first_kind chop in rw z
cut_before_law k (p ∷ (q ∷ qs)) z h =
    let most : ℕ = piece_most (key_width k) in
    let c : Piece = record { more = false; qualifier = q.kind; numbers = p.number ∷ [] } in
    ap (λ (x : ℕ). chop most (record { more = false; qualifier = x; numbers = p.number ∷ [] }) (q ∷ qs)) (start_next k p.kind q.kind (map kind_in qs) z h)
    ∙ chop_on most c q qs refl (omega (arith, most_room (key_width k)))
    ∙ unfold piece_with in refl

-- all shown sets are of the tuned ensemble
abbrev pub TunedShown : List Shown → Type 0
TunedShown ss = Every (λ (s : Shown). oe_of s.key ≡ 0) ss

blocks_before_law : (last : ℕ) (ss : List Shown) → InOrder last ss → TunedShown ss → all_blocks ss ≡ blocks_before ss
unfolding all_blocks set_blocks blocks_before pieces pieces_before
blocks_before_law last [] o z = refl
blocks_before_law last (s ∷ ss) o z =
    rw (cut_before_law s.key s.set.items z.0 ((set_rules s.key s.set).0 o.1.right).first, blocks_before_law s.key ss o.2 z.1)

pub air_before_law : (t : Content) → meets t ≡ true → TunedShown (shown_sets t.sets) → air t ≡ air_before t
unfolding air air_before
air_before_law t h z = blocks_before_law 0 (shown_sets t.sets) (shown_order t h) z

-- of a recording without OE 1, into a table without OE 1, what is written for air is as it was
shown_tuned : (es : Entries) → Every TunedKey es → TunedShown (shown_sets es)
unfolding shown_sets showing
shown_tuned [] z = tt
shown_tuned (e ∷ es) z =
    let rest = shown_tuned es z.1 in
    cases-option e.shown (λ g. rw g rest) (λ l g. rw g (z.0, rest))

pub recording_air_before : (t : Content) (bytes : List ℕ) → meets t ≡ true → TunedKeys t → ((i : ℕ) → get_or bytes i 0 < 256)
    → TunedBlocks (length bytes / 32) bytes → air (read_recording t bytes) ≡ air_before (recording_before t bytes)
recording_air_before t bytes m k b z =
    air_before_law (read_recording t bytes) (recording_keeps t bytes b m)
    (shown_tuned (read_recording t bytes).sets (keys_recording t bytes (bytes_list bytes b) z k))
    ∙ ap air_before (recording_before_law t bytes z)
