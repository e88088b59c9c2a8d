-- The pieces of a set that stands in a list. In order: how many there are; a block has room for each; dead links.
use Prim.Native.Nat.{ℕ, ◌+◌, ◌/◌, ◌%◌, ◌≤◌}
use native.Mathlib.Omega.{arith}
use mathlib.Core.Path.{◌≡◌, sym, ap, ◌∙◌}
use mathlib.Core.Bool.{Bool, true, false, not, ◌&&◌}
use mathlib.Core.List.{List, [], ◌∷◌, ◌++◌}
use lib.ListN.{length, length-append, length-map}
use lib.Dec.{eqb}
use borrow.Author.Tests.{eqb-true, eqb-false}
use Rattle.std.specs.Iterator.{YieldsFirstBy, Drains}
use Rattle.std.proofs.lemmas.Iterator.{items_from_drains}
use Rattle.std.proofs.lemmas.Iterator.Consumers.{YieldsList-from_first}
use Rattle.rules.specs.Block.{bit}
use Rattle.rules.specs.Field.{Pair, rds, drm}
use Rattle.rules.specs.Collecting.{IdSet, key_width, pairs_meet, most_ids}
use Rattle.std.specs.Int.{from_bool}
use Rattle.lists.specs.Kinds.{has_kind, is_dead}
use Rattle.pieces.specs.Air.{Piece, piece_most, cut, dead_link, pieces}
use Rattle.rules.proofs.Basics.{cases_bool, Every, every_imp, every_left}
use Rattle.rules.proofs.TableRules.{kind_small}
use Rattle.pieces.proofs.Cutting.{PieceMeets, pieces_meet}
use Rattle.lists.specs.declared.IdList.{IdList}
use Rattle.lists.specs.Stored.{pairs_in, Holds}
use Rattle.lists.proofs.PairLaws.{length_pairs_in}
use Rattle.lists.proofs.StoredLaws.{holds_facts}
use Rattle.sets.specs.Shown.{set_in}
use Rattle.air.specs.declared.Piece as Code
use Rattle.air.specs.declared.Pieces.{Pieces}
use Rattle.air.specs.Parts.{piece_of, to_come, Fitting}
use Rattle.air.proofs.Cuts.{cut_few}
use Rattle.air.proofs.Blocks.{bit_from}

-- ---- how many pieces

dead_length : (k : ℕ) (named : Bool) (ps : List Pair) → length (dead_link k named ps) ≡ bit (named && not (has_kind k ps))
unfolding dead_link bit
dead_length k named ps = cases_bool (named && not (has_kind k ps)) (λ e. rw e) (λ e. rw e)

pieces_length : (k : ℕ) (l : IdSet) → length (pieces k l)
    ≡ length (cut k l.items) + bit (eqb (l.named % 2) 1 && not (has_kind rds l.items)) + bit (eqb (l.named / 2) 1 && not (has_kind drm l.items))
unfolding pieces
pieces_length k l =
    rw (
      length-append (cut k l.items ++ dead_link rds (eqb (l.named % 2) 1) l.items) (dead_link drm (eqb (l.named / 2) 1) l.items),
      length-append (cut k l.items) (dead_link rds (eqb (l.named % 2) 1) l.items),
      dead_length rds (eqb (l.named % 2) 1) l.items,
      dead_length drm (eqb (l.named / 2) 1) l.items,
    )

-- the code counts them so: those of the identifiers, and each dead link as a flag
pub pieces_counted : (key : ℕ) (l : IdList) (ps : List Pair) (n r d : ℕ) → ps ≡ pairs_in l.kinds l.numbers l.len → n ≡ length (cut key (set_in l).items)
    → r ≡ from_bool (is_dead rds (eqb (l.named % 2) 1) ps) → d ≡ from_bool (is_dead drm (eqb (l.named / 2) 1) ps) → n + r + d ≡ length (pieces key (set_in l))
unfolding set_in
pieces_counted key l ps n r d same e f g =
    let flag : (k : ℕ) (named : Bool) → from_bool (is_dead k named ps) ≡ bit (is_dead k named (pairs_in l.kinds l.numbers l.len)) =
    λ k named. bit_from (is_dead k named ps) ∙ ap (λ (qs : List Pair). bit (is_dead k named qs)) same in
    omega (arith, e, f, g, flag rds (eqb (l.named % 2) 1), flag drm (eqb (l.named / 2) 1), pieces_length key (set_in l))

pub set_few : (key : ℕ) (l : IdList) → Holds key l → length (cut key (set_in l).items) ≤ most_ids
unfolding set_in
set_few key l holds =
    omega (arith, cut_few key (set_in l).items, length_pairs_in l.kinds l.numbers l.len, (holds_facts key l holds).short)

-- the pieces that came are those of the identifiers
pub all_came : (key : ℕ) (l : IdList) (p : Pieces) (n : ℕ) → Holds key l → to_come p ≡ cut key (set_in l).items
    → (xs : List Code.Piece) × Drains (YieldsFirstBy piece_of to_come) p xs × (n ≡ length xs)
    → (n ≡ length (cut key (set_in l).items)) × (n ≤ most_ids)
all_came key l p n holds e ran =
    let same : n ≡ length (cut key (set_in l).items) =
    ran.2 ∙ sym (length-map ran.0 piece_of)
    ∙ ap length (items_from_drains ran.0 (ran.1.1.0, ran.1.1.1, λ w. (ran.1.0, ran.1.1.2)) (YieldsList-from_first piece_of to_come _ e)) in
    (same, omega (arith, set_few key l holds))

-- ---- a block has room for each

items_fit : (key : ℕ) (s : IdSet) → pairs_meet (key_width key) s.named s.items ≡ true → Every (Fitting key) (cut key s.items)
unfolding pieces
items_fit key s m =
    let w : ℕ = key_width key in
    let met : Every (PieceMeets w s.named (piece_most w)) (pieces key s) = pieces_meet key w s m in
    let a : List Piece = cut key s.items in
    let r : List Piece = dead_link rds (eqb (s.named % 2) 1) s.items in
    let d : List Piece = dead_link drm (eqb (s.named / 2) 1) s.items in
    every_imp (PieceMeets w s.named (piece_most w)) (Fitting key) (λ c p. record { few = p.few; kind = kind_small s.named c.qualifier p.kind }) a
    (every_left (PieceMeets w s.named (piece_most w)) a r (every_left (PieceMeets w s.named (piece_most w)) (a ++ r) d met))

none_fit : (key : ℕ) (ps : List Pair) → length ps ≡ 0 → Every (Fitting key) (cut key ps)
unfolding cut
none_fit key [] e = tt
none_fit key (p ∷ ps) e = absurd (omega arith)

pub set_fits : (key : ℕ) (l : IdList) → Holds key l → Every (Fitting key) (cut key (set_in l).items)
unfolding set_in
set_fits key l holds =
    cases_bool (eqb l.len 0)
    (λ e. none_fit key (set_in l).items (omega (arith, length_pairs_in l.kinds l.numbers l.len, eqb-true l.len 0 e)))
    (λ e. items_fit key (set_in l) ((holds_facts key l holds).pairs (eqb-false l.len 0 e)))

-- ---- dead links

pub dead_there : (k : ℕ) (named : Bool) (ps : List Pair) → (named && not (has_kind k ps)) ≡ true
    → dead_link k named ps ≡ record { more = true; qualifier = k; numbers = [] } ∷ []
unfolding dead_link
dead_there k named ps e = rw e

pub dead_none : (k : ℕ) (named : Bool) (ps : List Pair) → (named && not (has_kind k ps)) ≡ false → dead_link k named ps ≡ []
unfolding dead_link
dead_none k named ps e = rw e
