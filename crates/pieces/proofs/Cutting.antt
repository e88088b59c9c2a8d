-- Cutting a set for air (document 01, Writing for air). In order: what pairs a piece stands for, and that the pieces of a set
-- stand for its pairs in order; which pieces are starts; that every piece is within the limits; how many pieces there are;
-- which kinds the pieces name together; and how many a set needs that meets the table rules.
use Prim.Native.Nat.{ℕ, suc, ◌+◌, ◌-◌, ◌*◌, ◌/◌, ◌%◌, ◌^◌, ◌≤◌, ◌<◌, max}
use native.Mathlib.Omega.{arith}
use mathlib.Core.Path.{◌≡◌, refl, sym, ap, ◌∙◌}
use mathlib.Core.Bool.{Bool, true, false, not, cond, ◌&&◌, ◌||◌, or-false}
use mathlib.Core.List.{List, [], ◌∷◌, ◌++◌, map, append_assoc, append-nil}
use lib.ListN.{length, length-append}
use lib.Dec.{ltb, eqb}
use borrow.Author.Tests.{ltb-true, eqb-true, eqb-false, lt-ltb, eq-eqb}
use Rattle.rules.specs.Block.{bit}
use Rattle.rules.specs.Field.{Pair, pair, kind_in, first_kind, start_pairs, named_by, dab, rds, drm}
use Rattle.rules.specs.Collecting.{IdSet, join_names, oe_of, first_of, may_begin, kind_named, pairs_meet, not_empty, begins_right, set_meets, key_width, most_ids}
use Rattle.lists.specs.Kinds.{has_kind}
use Rattle.pieces.specs.Air.{Piece, goes_on, piece_with, completed, chop, start_qualifier, start_of, cut, dead_link, pieces, piece_most}
use Rattle.rules.proofs.Basics.{cases_bool, cond_both, and_left, and_right, and_both, or_cases, or_false_left, or_false_right, true-false, bit_small, Every, every_append, map-append}
use Rattle.rules.proofs.TableRules.{dab_named, begins_dab_law, pair_rules, set_rules, kind_cases, join_mod, join_div, names_eq, join_assoc, join_again, join_zero, join_to_zero}

-- ---- the pairs

-- the pairs that a piece of a key's set stands for
unfoldable pub piece_pairs : ℕ → Piece → List Pair
piece_pairs k c = cond c.more (map (pair c.qualifier) c.numbers) (start_pairs (first_of k c.qualifier) c.qualifier c.numbers)

-- the pairs of pieces one after the other
unfoldable pub flat : ℕ → List Piece → List Pair
flat k [] = []
flat k (c ∷ cs) = piece_pairs k c ++ flat k cs

start_snoc : (first q n : ℕ) (ns : List ℕ) → 0 < length ns → start_pairs first q (ns ++ n ∷ []) ≡ start_pairs first q ns ++ pair q n ∷ []
unfolding start_pairs
start_snoc first q n [] h = absurd (omega arith)
start_snoc first q n (m ∷ ns) h = ap (λ (r : List Pair). pair first m ∷ r) (map-append (pair q) ns (n ∷ []))

pairs_snoc : (k : ℕ) (more : Bool) (q n : ℕ) (ns : List ℕ) → 0 < length ns
    → piece_pairs k (record { more = more; qualifier = q; numbers = ns ++ n ∷ [] })
    ≡ piece_pairs k (record { more = more; qualifier = q; numbers = ns }) ++ pair q n ∷ []
unfolding piece_pairs
pairs_snoc k true q n ns h = map-append (pair q) ns (n ∷ [])
pairs_snoc k false q n ns h = start_snoc (first_of k q) q n ns h

-- an identifier goes into a piece only if it is of its kind and there is room
goes_kind : (most : ℕ) (c : Piece) (p : Pair) → goes_on most c p ≡ true → p.kind ≡ c.qualifier
unfolding goes_on
goes_kind most c p e = eqb-true p.kind c.qualifier (and_left (eqb p.kind c.qualifier) (ltb (length c.numbers) most) e)

goes_room : (most : ℕ) (c : Piece) (p : Pair) → goes_on most c p ≡ true → length c.numbers < most
unfolding goes_on
goes_room most c p e = ltb-true (length c.numbers) most (and_right (eqb p.kind c.qualifier) (ltb (length c.numbers) most) e)

-- and then it does
goes_on_law : (most : ℕ) (c : Piece) (p : Pair) → p.kind ≡ c.qualifier → length c.numbers < most → goes_on most c p ≡ true
unfolding goes_on
goes_on_law most c p e h =
    and_both (eqb p.kind c.qualifier) (ltb (length c.numbers) most) (eq-eqb p.kind c.qualifier e) (lt-ltb (length c.numbers) most h)

-- one more identifier of its own kind, or a new piece with it
with_pairs : (k : ℕ) (c : Piece) (p : Pair) → p.kind ≡ c.qualifier → 0 < length c.numbers
    → piece_pairs k (piece_with true c p) ≡ piece_pairs k c ++ p ∷ []
unfolding piece_with pair
with_pairs k c p e h =
    pairs_snoc k c.more c.qualifier p.number c.numbers h
    ∙ ap (λ (q : ℕ). piece_pairs k c ++ (record { kind = q; number = p.number }) ∷ []) (sym e)

new_pairs : (k : ℕ) (c : Piece) (p : Pair) → piece_pairs k (piece_with false c p) ≡ p ∷ []
unfolding piece_pairs piece_with pair
new_pairs k c p = refl

with_begun : (c : Piece) (p : Pair) → 0 < length (piece_with true c p).numbers
unfolding piece_with
with_begun c p = omega (arith, length-append c.numbers (p.number ∷ []))

new_begun : (c : Piece) (p : Pair) → 0 < length (piece_with false c p).numbers
unfolding piece_with
new_begun c p = omega arith

-- the pairs of a begun piece and of those that follow are its own and those that were left
pub flat_chop : (k most : ℕ) (c : Piece) (ps : List Pair) → 0 < length c.numbers → flat k (chop most c ps) ≡ piece_pairs k c ++ ps
unfolding flat chop completed
flat_chop k most c [] h = refl
flat_chop k most c (p ∷ ps) h =
    let going : flat k (chop most (piece_with true c p) ps) ≡ piece_pairs k (piece_with true c p) ++ ps =
    flat_chop k most (piece_with true c p) ps (with_begun c p) in
    let ending : flat k (chop most (piece_with false c p) ps) ≡ piece_pairs k (piece_with false c p) ++ ps =
    flat_chop k most (piece_with false c p) ps (new_begun c p) in
    cases_bool (goes_on most c p)
    (λ e. rw (e, going, with_pairs k c p (goes_kind most c p e) h) (append_assoc (piece_pairs k c) (p ∷ []) ps))
    (λ e. rw (e, ending, new_pairs k c p))

-- the qualifier of a start as the documents say it. With OE 0: the kind of the run that follows the first identifier, or 0 if there is one
pub start_next : (k x y : ℕ) (ys : List ℕ) → oe_of k ≡ 0 → may_begin k x ≡ true → start_qualifier k x (y ∷ ys) ≡ y
unfolding start_qualifier first_of first_kind
start_next k x y ys z h = rw (z, begins_dab_law k x z h)

pub start_alone : (k x : ℕ) → oe_of k ≡ 0 → start_qualifier k x [] ≡ dab
unfolding start_qualifier first_of first_kind
start_alone k x z = rw z

-- with OE 1: the kind of the first run, also where there is one identifier
pub start_own : (k x : ℕ) (ks : List ℕ) → oe_of k ≡ 1 → start_qualifier k x ks ≡ x
unfolding start_qualifier first_of first_kind
start_own k x [] o = rw o
start_own k x (y ∷ ys) o = cases_bool (eqb y x) (λ e. rw (o, e) (eqb-true y x e)) (λ e. rw (o, e))

-- the first of a start with its qualifier is of its own kind, where it may begin the set
start_back : (k x : ℕ) (ks : List ℕ) → may_begin k x ≡ true → first_of k (start_qualifier k x ks) ≡ x
unfolding may_begin start_qualifier
start_back k x [] h = let e = eqb-true (first_of k x) x h in ap (first_of k) e ∙ e
start_back k x (y ∷ ys) h =
    cases_bool (eqb (first_of k y) x) (λ e. rw e (eqb-true (first_of k y) x e)) (λ e. rw e (eqb-true (first_of k x) x h))

-- all the pairs of a set that begins as it may come back, in order
pub flat_cut : (k : ℕ) (ps : List Pair) → begins_right k ps ≡ true → flat k (cut k ps) ≡ ps
unfolding flat cut begins_right piece_pairs start_pairs pair
flat_cut k [] h = refl
flat_cut k (p ∷ ps) h =
    flat_chop k (piece_most (key_width k)) (start_of k p ps) ps (omega arith)
    ∙ ap (λ (kind : ℕ). (record { kind = kind; number = p.number }) ∷ ps) (start_back k p.kind (map kind_in ps) h)

pub flat_append : (k : ℕ) (cs ds : List Piece) → flat k (cs ++ ds) ≡ flat k cs ++ flat k ds
unfolding flat
flat_append k [] ds = refl
flat_append k (c ∷ cs) ds = rw (flat_append k cs ds) (sym (append_assoc (piece_pairs k c) (flat k cs) (flat k ds)))

-- a dead link stands for no pair
flat_dead : (key k : ℕ) (named : Bool) (ps : List Pair) → flat key (dead_link k named ps) ≡ []
unfolding flat dead_link piece_pairs
flat_dead key k named ps = cases_bool (named && not (has_kind k ps)) (λ e. rw e) (λ e. rw e)

-- the pieces of a set stand for its pairs in order
pub flat_pieces : (k : ℕ) (l : IdSet) → begins_right k l.items ≡ true → flat k (pieces k l) ≡ l.items
unfolding pieces
flat_pieces k l h =
    let a : List Piece = cut k l.items in
    let r : List Piece = dead_link rds (eqb (l.named % 2) 1) l.items in
    let d : List Piece = dead_link drm (eqb (l.named / 2) 1) l.items in
    rw (flat_append k (a ++ r) d, flat_append k a r, flat_dead k rds (eqb (l.named % 2) 1) l.items, flat_dead k drm (eqb (l.named / 2) 1) l.items, flat_cut k l.items h)
    (append-nil (l.items ++ []) ∙ append-nil l.items)

-- ---- the start and the continuations

abbrev pub IsMore : Piece → Type 0
IsMore c = c.more ≡ true

-- pieces of which the first is a continuation or not, as said, and all others are
pub record Shape (more : Bool) (cs : List Piece) : Type 0 where
  pub first : Piece
  pub others : List Piece
  pub made : cs ≡ first ∷ others
  pub begins : first.more ≡ more
  pub goes : Every IsMore others

-- all of them, if the first one is
shape_more : (cs : List Piece) → Shape true cs → Every IsMore cs
shape_more cs s = rw s.made (s.begins, s.goes)

chop_shape : (most : ℕ) (c : Piece) (ps : List Pair) → Shape c.more (chop most c ps)
unfolding chop completed piece_with
chop_shape most c [] = record { first = c; others = []; made = refl; begins = refl; goes = tt }
chop_shape most c (p ∷ ps) =
    let going : Shape c.more (chop most (piece_with true c p) ps) = chop_shape most (piece_with true c p) ps in
    let ending : Shape true (chop most (piece_with false c p) ps) = chop_shape most (piece_with false c p) ps in
    cases_bool (goes_on most c p)
    (λ e. rw e going)
    (λ e.
    rw e
    (record {
      first = c;
      others = chop most (piece_with false c p) ps;
      made = refl;
      begins = refl;
      goes = shape_more (chop most (piece_with false c p) ps) ending;
    }))

cut_shape : (k : ℕ) (ps : List Pair) → not_empty ps ≡ true → Shape false (cut k ps)
unfolding cut not_empty
cut_shape k [] h = true-false h refl
cut_shape k (p ∷ ps) h =
    chop_shape (piece_most (key_width k)) (start_of k p ps) ps

dead_shape : (k : ℕ) (named : Bool) (ps : List Pair) → Every IsMore (dead_link k named ps)
unfolding dead_link
dead_shape k named ps = cases_bool (named && not (has_kind k ps)) (λ e. rw e (refl, tt)) (λ e. rw e tt)

shape_append : (more : Bool) (cs ds : List Piece) → Shape more cs → Every IsMore ds → Shape more (cs ++ ds)
shape_append more cs ds s h =
    record {
      first = s.first;
      others = s.others ++ ds;
      made = ap (λ (r : List Piece). r ++ ds) s.made;
      begins = s.begins;
      goes = every_append IsMore s.others ds s.goes h;
    }

-- the first piece of a set is a start, and all others are continuations
pub pieces_shape : (k : ℕ) (l : IdSet) → not_empty l.items ≡ true → Shape false (pieces k l)
unfolding pieces
pieces_shape k l h =
    let a : List Piece = cut k l.items in
    let r : List Piece = dead_link rds (eqb (l.named % 2) 1) l.items in
    let d : List Piece = dead_link drm (eqb (l.named / 2) 1) l.items in
    shape_append false (a ++ r) d
    (shape_append false a r (cut_shape k l.items h) (dead_shape rds (eqb (l.named % 2) 1) l.items))
    (dead_shape drm (eqb (l.named / 2) 1) l.items)

-- ---- the limits of a piece

-- a piece has room for 6 identifiers at least, and 12 at most
pub most_room : (w : ℕ) → 5 < piece_most w
unfolding piece_most
most_room w = cases_bool (eqb w 4) (λ e. rw e (omega arith)) (λ e. rw e (cases_bool (eqb w 3) (λ f. rw f (omega arith)) (λ f. rw f (omega arith))))

pub most_small : (w : ℕ) → piece_most w ≤ 12
unfolding piece_most
most_small w = cases_bool (eqb w 4) (λ e. rw e (omega arith)) (λ e. rw e (cases_bool (eqb w 3) (λ f. rw f (omega arith)) (λ f. rw f (omega arith))))

-- every number is below this
abbrev pub Below : ℕ → List ℕ → Type 0
Below m ns = Every (λ (n : ℕ). n < m) ns

-- a piece of a set with identifiers of w bytes and these names: at most so many numbers, within the width; a qualifier that is
-- 0 or named; a start has a number
pub record PieceMeets (w named most : ℕ) (c : Piece) : Type 0 where
  pub few : length c.numbers ≤ most
  pub within : Below (256 ^ w) c.numbers
  pub kind : kind_named named c.qualifier ≡ true
  pub begun : c.more ≡ false → 0 < length c.numbers

-- the qualifier of a start is one of its identifiers' kinds, or 0
start_named : (named k : ℕ) (p : Pair) (ps : List Pair) (w : ℕ) → pairs_meet w named (p ∷ ps) ≡ true
    → kind_named named (start_qualifier k p.kind (map kind_in ps)) ≡ true
unfolding start_qualifier first_of first_kind kind_in
start_named named k p [] w h =
    cond_both (λ (q : ℕ). kind_named named q ≡ true) (eqb (oe_of k) 1) p.kind dab ((pair_rules w named p []).0 h).kind (dab_named named)
start_named named k p (q ∷ qs) w h =
    let r = (pair_rules w named p (q ∷ qs)).0 h in
    cond_both (λ (x : ℕ). kind_named named x ≡ true) (eqb (first_of k q.kind) p.kind) q.kind p.kind
    ((pair_rules w named q qs).0 r.rest).kind r.kind

module _ (w named most : ℕ) (some' : 1 < most) where
  with_meets : (c : Piece) (p : Pair) → PieceMeets w named most c → goes_on most c p ≡ true → p.number < 256 ^ w
      → PieceMeets w named most (piece_with true c p)
  unfolding piece_with
  with_meets c p m e h =
      let r : length c.numbers < most = goes_room most c p e in
      let a : length (c.numbers ++ p.number ∷ []) ≡ length c.numbers + 1 = length-append c.numbers (p.number ∷ []) in
      record {
        few = omega arith;
        within = every_append (λ (n : ℕ). n < 256 ^ w) c.numbers (p.number ∷ []) m.within (h, tt);
        kind = m.kind;
        begun = λ b. omega arith;
      }

  new_meets : (c : Piece) (p : Pair) → kind_named named p.kind ≡ true → p.number < 256 ^ w → PieceMeets w named most (piece_with false c p)
  unfolding piece_with
  new_meets c p k h = record { few = omega arith; within = (h, tt); kind = k; begun = λ b. omega arith }

  chop_meets : (c : Piece) (ps : List Pair) → PieceMeets w named most c → pairs_meet w named ps ≡ true → Every (PieceMeets w named most) (chop most c ps)
  unfolding chop completed
  chop_meets c [] m h = (m, tt)
  chop_meets c (p ∷ ps) m h =
      let n : p.number < 256 ^ w = ((pair_rules w named p ps).0 h).number in
      let r : pairs_meet w named ps ≡ true = ((pair_rules w named p ps).0 h).rest in
      let ending : Every (PieceMeets w named most) (chop most (piece_with false c p) ps) =
      chop_meets (piece_with false c p) ps (new_meets c p ((pair_rules w named p ps).0 h).kind n) r in
      cases_bool (goes_on most c p)
      (λ e. rw e (chop_meets (piece_with true c p) ps (with_meets c p m e n) r))
      (λ e. rw e (m, ending))

  dead_meets : (k : ℕ) (b : Bool) (ps : List Pair) → (b ≡ true → kind_named named k ≡ true) → Every (PieceMeets w named most) (dead_link k b ps)
  unfolding dead_link
  dead_meets k b ps f =
      cases_bool (b && not (has_kind k ps))
      (λ e.
      rw e
      (record { few = omega arith; within = tt; kind = f (and_left b (not (has_kind k ps)) e); begun = λ s. true-false refl s }, tt))
      (λ e. rw e tt)

cut_meets : (k w named : ℕ) (ps : List Pair) → pairs_meet w named ps ≡ true → Every (PieceMeets w named (piece_most (key_width k))) (cut k ps)
unfolding cut
cut_meets k w named [] h = tt
cut_meets k w named (p ∷ ps) h =
    let m : 5 < piece_most (key_width k) = most_room (key_width k) in
    let r = (pair_rules w named p ps).0 h in
    chop_meets w named (piece_most (key_width k)) (omega arith) (start_of k p ps) ps
    (record { few = omega arith; within = (r.number, tt); kind = start_named named k p ps w h; begun = λ b. omega arith }) r.rest

-- every piece of a set is within the limits
pub pieces_meet : (k w : ℕ) (l : IdSet) → pairs_meet w l.named l.items ≡ true → Every (PieceMeets w l.named (piece_most (key_width k))) (pieces k l)
unfolding pieces kind_named
pieces_meet k w l h =
    let most : ℕ = piece_most (key_width k) in
    let some' : 1 < most = omega (arith, most_room (key_width k)) in
    let P : Piece → Type 0 = PieceMeets w l.named most in
    let a : List Piece = cut k l.items in
    let r : List Piece = dead_link rds (eqb (l.named % 2) 1) l.items in
    let d : List Piece = dead_link drm (eqb (l.named / 2) 1) l.items in
    every_append P (a ++ r) d
    (every_append P a r (cut_meets k w l.named l.items h)
    (dead_meets w l.named most some' rds (eqb (l.named % 2) 1) l.items (λ e. rw e)))
    (dead_meets w l.named most some' drm (eqb (l.named / 2) 1) l.items (λ e. rw e))

-- ---- how many pieces

chop_count : (most : ℕ) (c : Piece) (ps : List Pair) → length (chop most c ps) ≤ suc (length ps)
unfolding chop completed
chop_count most c [] = omega arith
chop_count most c (p ∷ ps) =
    let going : length (chop most (piece_with true c p) ps) ≤ suc (length ps) = chop_count most (piece_with true c p) ps in
    let ending : length (chop most (piece_with false c p) ps) ≤ suc (length ps) = chop_count most (piece_with false c p) ps in
    cases_bool (goes_on most c p) (λ e. rw e (omega arith)) (λ e. rw e (omega arith))

-- one that goes on takes the next in
pub chop_on : (most : ℕ) (c : Piece) (p : Pair) (ps : List Pair) → p.kind ≡ c.qualifier → length c.numbers < most → chop most c (p ∷ ps) ≡ chop most (piece_with true c p) ps
unfolding chop completed
chop_on most c p ps e h = rw (goes_on_law most c p e h)

-- with OE 0 the first two identifiers go into one piece, if the first is one that may begin; with OE 1 they may need two
pair_count : (k : ℕ) (p q : Pair) (qs : List Pair) → start_qualifier k p.kind (map kind_in (q ∷ qs)) ≡ q.kind → length (cut k (p ∷ (q ∷ qs))) ≤ suc (length qs)
unfolding cut
pair_count k p q qs e =
    let most : ℕ = piece_most (key_width k) in
    let c : Piece = start_of k p (q ∷ qs) in
    rw (chop_on most c q qs (sym e) (omega (arith, most_room (key_width k)))) (chop_count most (piece_with true c q) qs)

cut_count : (k : ℕ) (ps : List Pair) → begins_right k ps ≡ true → length (cut k ps) ≤ suc (length ps - 2) + oe_of k
unfolding cut begins_right kind_in
cut_count k [] h = omega arith
cut_count k (p ∷ []) h =
    omega (arith, chop_count (piece_most (key_width k)) (start_of k p []) [])
cut_count k (p ∷ (q ∷ qs)) h =
    cases_bool (eqb (oe_of k) 1)
    (λ e.
    omega
    (arith, eqb-true (oe_of k) 1 e, chop_count (piece_most (key_width k)) (start_of k p (q ∷ qs)) (q ∷ qs)))
    (λ e.
    let z : oe_of k ≡ 0 = omega (arith, eqb-false (oe_of k) 1 e) in
    omega (arith, pair_count k p q qs (start_next k p.kind q.kind (map kind_in qs) z h)))

dead_count : (k : ℕ) (b : Bool) (ps : List Pair) → length (dead_link k b ps) ≤ 1
unfolding dead_link
dead_count k b ps = cases_bool (b && not (has_kind k ps)) (λ e. rw e (omega arith)) (λ e. rw e (omega arith))

-- a dead link's kind is not among the identifiers
dead_absent : (k : ℕ) (b : Bool) (ps : List Pair) → has_kind k ps ≡ true → length (dead_link k b ps) ≡ 0
unfolding dead_link
dead_absent k true ps e = rw e
dead_absent k false ps e = refl

-- a kind that is there, and neither RDS nor DRM
kind_dab : (named k : ℕ) → kind_named named k ≡ true → eqb k rds ≡ false → eqb k drm ≡ false → k ≡ 0
kind_dab named k h r d = kind_cases named k h (λ e. e) (λ e g. true-false (eq-eqb k rds e) r) (λ e g. true-false (eq-eqb k drm e) d)

first_dab : (w named : ℕ) (p : Pair) (ps : List Pair) → pairs_meet w named (p ∷ ps) ≡ true → has_kind rds (p ∷ ps) ≡ false
    → has_kind drm (p ∷ ps) ≡ false → p.kind ≡ 0
unfolding has_kind
first_dab w named p ps h r d =
    kind_dab named p.kind ((pair_rules w named p ps).0 h).kind
    (or_false_left (eqb p.kind rds) (has_kind rds ps) r) (or_false_left (eqb p.kind drm) (has_kind drm ps) d)

rest_absent : (k : ℕ) (p : Pair) (ps : List Pair) → has_kind k (p ∷ ps) ≡ false → has_kind k ps ≡ false
unfolding has_kind
rest_absent k p ps h = or_false_right (eqb p.kind k) (has_kind k ps) h

-- a start of two identifiers of one kind
start_same : (k x y : ℕ) (ys : List ℕ) → x ≡ y → start_qualifier k x (y ∷ ys) ≡ y
unfolding start_qualifier
start_same k x y ys e = cond_both (λ (q : ℕ). q ≡ y) (eqb (first_of k y) x) y x refl e

-- where all are DAB services, the first three go into one piece
cut_dab : (k w named : ℕ) (ps : List Pair) → pairs_meet w named ps ≡ true → has_kind rds ps ≡ false → has_kind drm ps ≡ false
    → length (cut k ps) ≤ suc (length ps - 3)
unfolding cut piece_with kind_in
cut_dab k w named [] h r d = omega arith
cut_dab k w named (p ∷ []) h r d =
    omega (arith, chop_count (piece_most (key_width k)) (start_of k p []) [])
cut_dab k w named (p ∷ (q ∷ qs)) h r d =
    let h1 : pairs_meet w named (q ∷ qs) ≡ true = ((pair_rules w named p (q ∷ qs)).0 h).rest in
    let r1 : has_kind rds (q ∷ qs) ≡ false = rest_absent rds p (q ∷ qs) r in
    let d1 : has_kind drm (q ∷ qs) ≡ false = rest_absent drm p (q ∷ qs) d in
    let a : q.kind ≡ 0 = first_dab w named q qs h1 r1 d1 in
    third qs h1 r1 d1 a (start_same k p.kind q.kind (map kind_in qs) (first_dab w named p (q ∷ qs) h r d ∙ sym a))
  where
    most : ℕ
    most = piece_most (key_width k)

    third : (rest : List Pair) → pairs_meet w named (q ∷ rest) ≡ true → has_kind rds (q ∷ rest) ≡ false → has_kind drm (q ∷ rest) ≡ false → q.kind ≡ 0
        → start_qualifier k p.kind (map kind_in (q ∷ rest)) ≡ q.kind → length (cut k (p ∷ (q ∷ rest))) ≤ suc (suc (suc (length rest)) - 3)
    third [] h1 r1 d1 a e = omega (arith, pair_count k p q [] e)
    third (s ∷ ss) h1 r1 d1 a e =
        let b : s.kind ≡ 0 =
        first_dab w named s ss ((pair_rules w named q (s ∷ ss)).0 h1).rest (rest_absent rds q (s ∷ ss) r1) (rest_absent drm q (s ∷ ss) d1) in
        let c : Piece = start_of k p (q ∷ s ∷ ss) in
        let m : 5 < most = most_room (key_width k) in
        rw (chop_on most c q (s ∷ ss) (sym e) (omega arith), chop_on most (piece_with true c q) s ss (b ∙ sym a ∙ sym e) (omega arith))
        (omega (arith, chop_count most (piece_with true (piece_with true c q) s) ss))

-- a set of 128 identifiers at most needs 128 pieces at most, and one more with OE 1: with two dead links all the others are DAB services
pub pieces_count : (k w : ℕ) (l : IdSet) → length l.items ≤ most_ids → begins_right k l.items ≡ true → pairs_meet w l.named l.items ≡ true
    → length (pieces k l) ≤ most_ids + oe_of k
unfolding pieces
pieces_count k w l n f h =
    let ps : List Pair = l.items in
    let a : List Piece = cut k ps in
    let r : List Piece = dead_link rds (eqb (l.named % 2) 1) ps in
    let d : List Piece = dead_link drm (eqb (l.named / 2) 1) ps in
    let sum : length (a ++ r ++ d) ≡ length a + length r + length d = length-append (a ++ r) d ∙ ap (λ (x : ℕ). x + length d) (length-append a r) in
    let r1 : length r ≤ 1 = dead_count rds (eqb (l.named % 2) 1) ps in
    let d1 : length d ≤ 1 = dead_count drm (eqb (l.named / 2) 1) ps in
    let c : length a ≤ suc (length ps - 2) + oe_of k = cut_count k ps f in
    cases_bool (has_kind rds ps)
    (λ e. let z : length r ≡ 0 = dead_absent rds (eqb (l.named % 2) 1) ps e in omega arith)
    (λ e.
    cases_bool (has_kind drm ps)
    (λ g. let z : length d ≡ 0 = dead_absent drm (eqb (l.named / 2) 1) ps g in omega arith)
    (λ g. let z : length a ≤ suc (length ps - 3) = cut_dab k w l.named ps h e g in omega arith))

-- ---- the names

-- the kinds that pairs have, and those that pieces name, as names
unfoldable pub kinds_named : List Pair → ℕ
kinds_named [] = 0
kinds_named (p ∷ ps) = join_names (named_by p.kind) (kinds_named ps)

unfoldable pub pieces_named : List Piece → ℕ
pieces_named [] = 0
pieces_named (c ∷ cs) = join_names (named_by c.qualifier) (pieces_named cs)

named_append : (cs ds : List Piece) → pieces_named (cs ++ ds) ≡ join_names (pieces_named cs) (pieces_named ds)
unfolding pieces_named
named_append [] ds = sym (join_zero (pieces_named ds))
named_append (c ∷ cs) ds = rw (named_append cs ds) (sym (join_assoc (named_by c.qualifier) (pieces_named cs) (pieces_named ds)))

-- a begun piece and those that follow name its kind and the kinds that were left
named_chop : (most : ℕ) (c : Piece) (ps : List Pair) → pieces_named (chop most c ps) ≡ join_names (named_by c.qualifier) (kinds_named ps)
unfolding pieces_named kinds_named chop completed piece_with
named_chop most c [] = refl
named_chop most c (p ∷ ps) =
    let q : ℕ = named_by c.qualifier in
    let going : pieces_named (chop most (piece_with true c p) ps) ≡ join_names q (kinds_named ps) = named_chop most (piece_with true c p) ps in
    let ending : pieces_named (chop most (piece_with false c p) ps) ≡ join_names (named_by p.kind) (kinds_named ps) =
    named_chop most (piece_with false c p) ps in
    cases_bool (goes_on most c p)
    (λ e. rw (e, going, goes_kind most c p e) (sym (join_again q (kinds_named ps))))
    (λ e. rw (e, ending))

-- a DAB service has no name
named_dab : (p : Pair) (ps : List Pair) → p.kind ≡ 0 → kinds_named (p ∷ ps) ≡ kinds_named ps
unfolding kinds_named named_by
named_dab p ps e = rw e (join_zero (kinds_named ps))

-- a start names what its first two identifiers do: the first is of its kind or a DAB service
start_names : (k : ℕ) (p q : Pair) (n : ℕ) → first_of k q.kind ≡ p.kind
    → join_names (named_by q.kind) (join_names (named_by q.kind) n) ≡ join_names (named_by p.kind) (join_names (named_by q.kind) n)
unfolding first_of first_kind named_by
start_names k p q n e =
    cases_bool (eqb (oe_of k) 1)
    (λ o. let s : q.kind ≡ p.kind = rw o at e in rw s)
    (λ o. let s : dab ≡ p.kind = rw o at e in rw (sym s) (join_again (named_by q.kind) n ∙ sym (join_zero (join_names (named_by q.kind) n))))

named_cut : (k : ℕ) (ps : List Pair) → begins_right k ps ≡ true → pieces_named (cut k ps) ≡ kinds_named ps
unfolding cut begins_right may_begin start_qualifier kind_in pieces_named kinds_named
named_cut k [] h = refl
named_cut k (p ∷ []) h =
    named_chop (piece_most (key_width k)) (record { more = false; qualifier = first_of k p.kind; numbers = p.number ∷ [] }) []
    ∙ ap (λ (q : ℕ). join_names (named_by q) 0) (eqb-true (first_of k p.kind) p.kind h)
named_cut k (p ∷ (q ∷ qs)) h =
    named_chop (piece_most (key_width k)) (start_of k p (q ∷ qs)) (q ∷ qs)
    ∙ cases_bool (eqb (first_of k q.kind) p.kind)
    (λ e. rw e (start_names k p q (kinds_named qs) (eqb-true (first_of k q.kind) p.kind e)))
    (λ e. rw e)

-- the two bits of a kind's name, of the pairs' names and of a dead link's
named_rds : (k : ℕ) → named_by k % 2 ≡ bit (eqb k rds)
unfolding named_by bit
named_rds k = cases_bool (eqb k rds) (λ e. rw e) (λ e. rw e (cases_bool (eqb k drm) (λ f. rw f) (λ f. rw f)))

named_drm : (k : ℕ) → named_by k / 2 ≡ bit (eqb k drm)
unfolding named_by bit
named_drm k =
    cases_bool (eqb k rds)
    (λ e. rw (eqb-true k rds e))
    (λ e. rw e (cases_bool (eqb k drm) (λ f. rw f) (λ f. rw f)))

bit_or : (a b : Bool) → bit (a || b) ≡ max (bit a) (bit b)
unfolding bit
bit_or true true = refl
bit_or true false = refl
bit_or false true = refl
bit_or false false = refl

kinds_rds : (ps : List Pair) → kinds_named ps % 2 ≡ bit (has_kind rds ps)
unfolding kinds_named has_kind bit
kinds_rds [] = refl
kinds_rds (p ∷ ps) = rw (join_mod (named_by p.kind) (kinds_named ps), named_rds p.kind, kinds_rds ps) (sym (bit_or (eqb p.kind rds) (has_kind rds ps)))

kinds_drm : (ps : List Pair) → kinds_named ps / 2 ≡ bit (has_kind drm ps)
unfolding kinds_named has_kind bit
kinds_drm [] = refl
kinds_drm (p ∷ ps) = rw (join_div (named_by p.kind) (kinds_named ps), named_drm p.kind, kinds_drm ps) (sym (bit_or (eqb p.kind drm) (has_kind drm ps)))

dead_named : (k : ℕ) (b : Bool) (ps : List Pair) → pieces_named (dead_link k b ps) ≡ bit (b && not (has_kind k ps)) * named_by k
unfolding pieces_named dead_link bit
dead_named k b ps =
    cases_bool (b && not (has_kind k ps)) (λ e. rw e (join_to_zero (named_by k) ∙ omega arith)) (λ e. rw e (omega arith))

-- a kind that is there is named
rds_there : (named k : ℕ) → kind_named named k ≡ true → eqb k rds ≡ true → eqb (named % 2) 1 ≡ true
unfolding kind_named
rds_there named k h e =
    let g : kind_named named rds ≡ true = rw (eqb-true k rds e) at h in
    rw (or-false (eqb (named % 2) 1)) at g

drm_there : (named k : ℕ) → kind_named named k ≡ true → eqb k drm ≡ true → eqb (named / 2) 1 ≡ true
unfolding kind_named
drm_there named k h e =
    let g : kind_named named drm ≡ true = rw (eqb-true k drm e) at h in
    g

rds_named : (w named : ℕ) (ps : List Pair) → pairs_meet w named ps ≡ true → has_kind rds ps ≡ true → eqb (named % 2) 1 ≡ true
unfolding has_kind
rds_named w named [] h e = true-false e refl
rds_named w named (p ∷ ps) h e =
    or_cases (eqb p.kind rds) (has_kind rds ps) e
    (λ f. rds_there named p.kind ((pair_rules w named p ps).0 h).kind f)
    (λ f. rds_named w named ps ((pair_rules w named p ps).0 h).rest f)

drm_named : (w named : ℕ) (ps : List Pair) → pairs_meet w named ps ≡ true → has_kind drm ps ≡ true → eqb (named / 2) 1 ≡ true
unfolding has_kind
drm_named w named [] h e = true-false e refl
drm_named w named (p ∷ ps) h e =
    or_cases (eqb p.kind drm) (has_kind drm ps) e
    (λ f. drm_there named p.kind ((pair_rules w named p ps).0 h).kind f)
    (λ f. drm_named w named ps ((pair_rules w named p ps).0 h).rest f)

-- there, or named without being there: named
bit_named : (has : Bool) (n : ℕ) → n < 2 → (has ≡ true → eqb n 1 ≡ true) → max (bit has) (bit (eqb n 1 && not has)) ≡ n
unfolding bit
bit_named true n h f = rw (f refl) (sym (eqb-true n 1 (f refl)))
bit_named false n h f = cases_bool (eqb n 1) (λ e. rw e (sym (eqb-true n 1 e))) (λ e. rw e (omega (arith, eqb-false n 1 e)))

-- the pieces of a set name together what it names
pub pieces_named_law : (k w : ℕ) (l : IdSet) → begins_right k l.items ≡ true → pairs_meet w l.named l.items ≡ true → l.named < 4
    → pieces_named (pieces k l) ≡ l.named
unfolding pieces named_by
pieces_named_law k w l f h n =
    let ps : List Pair = l.items in
    let a : List Piece = cut k ps in
    let r : List Piece = dead_link rds (eqb (l.named % 2) 1) ps in
    let d : List Piece = dead_link drm (eqb (l.named / 2) 1) ps in
    let low : max (bit (has_kind rds ps)) (bit (eqb (l.named % 2) 1 && not (has_kind rds ps))) ≡ l.named % 2 =
    bit_named (has_kind rds ps) (l.named % 2) (omega arith) (rds_named w l.named ps h) in
    let high : max (bit (has_kind drm ps)) (bit (eqb (l.named / 2) 1 && not (has_kind drm ps))) ≡ l.named / 2 =
    bit_named (has_kind drm ps) (l.named / 2) (omega arith) (drm_named w l.named ps h) in
    let y : bit (eqb (l.named % 2) 1 && not (has_kind rds ps)) ≤ 1 = bit_small (eqb (l.named % 2) 1 && not (has_kind rds ps)) in
    let z : bit (eqb (l.named / 2) 1 && not (has_kind drm ps)) ≤ 1 = bit_small (eqb (l.named / 2) 1 && not (has_kind drm ps)) in
    let e : pieces_named (a ++ r ++ d) ≡ join_names (join_names (kinds_named ps) (pieces_named r)) (pieces_named d) =
    rw (named_append (a ++ r) d, named_append a r, named_cut k ps f) in
    e
    ∙ names_eq (join_names (join_names (kinds_named ps) (pieces_named r)) (pieces_named d)) l.named
    (simp (join_mod, kinds_rds ps, dead_named rds (eqb (l.named % 2) 1) ps, dead_named drm (eqb (l.named / 2) 1) ps) (omega arith))
    (simp (join_div, kinds_drm ps, dead_named rds (eqb (l.named % 2) 1) ps, dead_named drm (eqb (l.named / 2) 1) ps) (omega arith))

-- ---- a set that meets the table rules

-- a set needs at most 128 pieces, and one more with OE 1
pub set_count : (k : ℕ) (l : IdSet) → set_meets k l ≡ true → length (pieces k l) ≤ most_ids + oe_of k
set_count k l h = let s = (set_rules k l).0 h in pieces_count k (key_width k) l s.short s.first s.pairs
