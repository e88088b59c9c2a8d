-- Cutting a set from its front on (document 01, Writing for air). In order: kinds and numbers of pairs; a begun piece takes a run of its
-- kind; the next piece, and what is left after it; what a start's qualifier is by the kinds; how many pieces there are at most.
use Prim.Native.Nat.{ℕ, zero, suc, ◌+◌, ◌-◌, ◌≤◌, ◌<◌, min}
use native.Mathlib.Omega.{arith}
use mathlib.Core.Path.{◌≡◌, refl, sym, ap, ◌∙◌}
use mathlib.Core.Bool.{Bool, true, false, cond}
use mathlib.Core.List.{List, [], ◌∷◌, ◌++◌, map, append-nil, append_assoc}
use lib.ListN.{length, get_or, take, drop, length-append, length-take}
use lib.Seq.{take-nil}
use lib.Dec.{ltb, eqb}
use borrow.Author.Tests.{eq-eqb, ne_eqb, eqb-false, ltb-true, ltb-false}
use Rattle.std.proofs.lemmas.List.{take_min}
use Rattle.rules.specs.Field.{Pair, pair, number_in, kind_in}
use Rattle.rules.specs.Collecting.{key_width, first_of}
use Rattle.lists.specs.Stored.{paired}
use Rattle.pieces.specs.Air.{Piece, piece_most, goes_on, piece_with, completed, chop, start_qualifier, cut}
use Rattle.rules.proofs.Basics.{cases_bool, and_left, and_right, true-false}
use Rattle.pieces.proofs.Cutting.{most_room}
use Rattle.air.specs.Parts.{run, qualifier_of, further, pieces_left}

-- ---- kinds and numbers of pairs

paired_kinds : (ks ns : List ℕ) → length ks ≡ length ns → map kind_in (paired ks ns) ≡ ks
unfolding paired kind_in pair
paired_kinds [] ns e = refl
paired_kinds (k ∷ ks) [] e = absurd (omega arith)
paired_kinds (k ∷ ks) (n ∷ ns) e = ap (◌∷◌ k) (paired_kinds ks ns (omega arith))

paired_numbers : (t : ℕ) (ks ns : List ℕ) → length ks ≡ length ns → map number_in (take t (paired ks ns)) ≡ take t ns
unfolding paired number_in pair
paired_numbers zero ks ns e = refl
paired_numbers (suc t) [] [] e = refl
paired_numbers (suc t) [] (n ∷ ns) e = absurd (omega arith)
paired_numbers (suc t) (k ∷ ks) [] e = absurd (omega arith)
paired_numbers (suc t) (k ∷ ks) (n ∷ ns) e = ap (◌∷◌ n) (paired_numbers t ks ns (omega arith))

-- ---- a begun piece

-- how many of the identifiers that are left it takes
unfoldable taken : ℕ → Piece → List Pair → ℕ
taken most c ps = run c.qualifier (take (most - length c.numbers) (map kind_in ps))

-- a piece with these identifiers too
unfoldable grown : Piece → List Pair → Piece
grown c ps = record { more = c.more; qualifier = c.qualifier; numbers = c.numbers ++ map number_in ps }

grown_none : (c : Piece) → grown c [] ≡ c
unfolding grown
grown_none c = λ i. record { more = c.more; qualifier = c.qualifier; numbers = append-nil c.numbers i }

grown_next : (c : Piece) (p : Pair) (ps : List Pair) → grown (piece_with true c p) ps ≡ grown c (p ∷ ps)
unfolding grown piece_with number_in
grown_next c p ps =
    λ i. record { more = c.more; qualifier = c.qualifier; numbers = append_assoc c.numbers (p.number ∷ []) (map number_in ps) i }

taken_none : (most : ℕ) (c : Piece) → taken most c [] ≡ 0
unfolding taken
taken_none most c = ap (run c.qualifier) (take-nil (most - length c.numbers))

taken_next : (most : ℕ) (c : Piece) (p : Pair) (ps : List Pair) → goes_on most c p ≡ true → taken most c (p ∷ ps) ≡ suc (taken most (piece_with true c p) ps)
unfolding taken goes_on piece_with kind_in
taken_next most c p ps g =
    let e = and_left (eqb p.kind c.qualifier) (ltb (length c.numbers) most) g in
    let h : length c.numbers < most = ltb-true (length c.numbers) most (and_right (eqb p.kind c.qualifier) (ltb (length c.numbers) most) g) in
    let m : most - length c.numbers ≡ suc (most - length (c.numbers ++ p.number ∷ [])) = omega (arith, length-append c.numbers (p.number ∷ [])) in
    ap (λ (n : ℕ). run c.qualifier (take n (map kind_in (p ∷ ps)))) m ∙ rw e (omega arith)

taken_stops : (most : ℕ) (c : Piece) (p : Pair) (ps : List Pair) → goes_on most c p ≡ false → taken most c (p ∷ ps) ≡ 0
unfolding taken goes_on kind_in
taken_stops most c p ps g =
    cases_bool (ltb (length c.numbers) most)
    (λ h.
    let m : most - length c.numbers ≡ suc (most - suc (length c.numbers)) = omega (arith, ltb-true (length c.numbers) most h) in
    ap (λ (n : ℕ). run c.qualifier (take n (map kind_in (p ∷ ps)))) m
    ∙ cases_bool (eqb p.kind c.qualifier) (λ e. true-false (rw (e, h)) g) (λ e. rw e))
    (λ h.
    let m : most - length c.numbers ≡ 0 = omega (arith, ltb-false (length c.numbers) most h) in
    ap (λ (n : ℕ). run c.qualifier (take n (map kind_in (p ∷ ps)))) m)

-- it takes them, and the others are cut further
chop_run : (most : ℕ) (c : Piece) (ps : List Pair) → chop most c ps ≡ grown c (take (taken most c ps) ps) ∷ further most (drop (taken most c ps) ps)
unfolding chop completed further piece_with
chop_run most c [] = rw (taken_none most c, grown_none c)
chop_run most c (p ∷ ps) =
    let going = chop_run most (piece_with true c p) ps in
    cases_bool (goes_on most c p)
    (λ g. rw (g, taken_next most c p ps g) (going ∙ ap (λ (x : Piece). x ∷ further most (drop (taken most (piece_with true c p) ps) ps)) (grown_next c p _)))
    (λ g. rw (g, taken_stops most c p ps g, grown_none c))

-- ---- the next piece

-- it is begun with the identifier at the front
left_begun : (key : ℕ) (b : Bool) (k x : ℕ) (ks ns : List ℕ) → length ks ≡ length ns
    → pieces_left key b (paired (k ∷ ks) (x ∷ ns))
    ≡ chop (piece_most (key_width key)) (record { more = b; qualifier = qualifier_of key b (k ∷ ks); numbers = x ∷ [] }) (paired ks ns)
unfolding pieces_left further cut qualifier_of paired pair
left_begun key true k x ks ns e = refl
left_begun key false k x ks ns e =
    ap (λ (l : List ℕ). chop (piece_most (key_width key)) (record { more = false; qualifier = start_qualifier key k l; numbers = x ∷ [] }) (paired ks ns))
    (paired_kinds ks ns e)

-- and takes the run behind it, as far as there is room
first_left : (key : ℕ) (b : Bool) (k x : ℕ) (ks ns : List ℕ) (q end t : ℕ) → length ks ≡ length ns → q ≡ qualifier_of key b (k ∷ ks)
    → end ≡ min (suc (length ks)) (piece_most (key_width key)) → t ≡ run q (take (end - 1) ks)
    → pieces_left key b (paired (k ∷ ks) (x ∷ ns))
    ≡ record { more = b; qualifier = q; numbers = x ∷ take t ns } ∷ pieces_left key true (drop t (paired ks ns))
unfolding taken grown pieces_left
first_left key b k x ks ns q end t e f g h =
    let most : ℕ = piece_most (key_width key) in
    let ps : List Pair = paired ks ns in
    let c : Piece = record { more = b; qualifier = qualifier_of key b (k ∷ ks); numbers = x ∷ [] } in
    let m : end - 1 ≡ min (most - 1) (length ks) = omega (arith, most_room (key_width key)) in
    let room : take (end - 1) ks ≡ take (most - 1) (map kind_in ps) =
    ap (λ (n : ℕ). take n ks) m ∙ take_min (most - 1) ks ∙ ap (take (most - 1)) (sym (paired_kinds ks ns e)) in
    let same : taken most c ps ≡ t = sym (h ∙ ap (run q) room ∙ ap (λ (z : ℕ). run z (take (most - 1) (map kind_in ps))) f) in
    left_begun key b k x ks ns e ∙ chop_run most c ps
    ∙ ap (λ (n : ℕ). grown c (take n ps) ∷ further most (drop n ps)) same
    ∙ λ i. record { more = b; qualifier = sym f i; numbers = x ∷ paired_numbers t ks ns e i } ∷ further most (drop t ps)

next_of : (key : ℕ) (b : Bool) (ks ns : List ℕ) (q end t n : ℕ) → length ks ≡ length ns → 0 < length ks → q ≡ qualifier_of key b ks
    → end ≡ min (length ks) (piece_most (key_width key)) → t ≡ run q (take (end - 1) (drop 1 ks)) → n ≡ suc t
    → pieces_left key b (paired ks ns) ≡ record { more = b; qualifier = q; numbers = take n ns } ∷ pieces_left key true (drop n (paired ks ns))
unfolding paired
next_of key b [] ns q end t n e z f g h s = absurd (omega arith)
next_of key b (k ∷ ks) [] q end t n e z f g h s = absurd (omega arith)
next_of key b (k ∷ ks) (x ∷ ns) q end t n e z f g h s =
    first_left key b k x ks ns q end t (omega arith) f g h
    ∙ ap (λ (j : ℕ). record { more = b; qualifier = q; numbers = take j (x ∷ ns) } ∷ pieces_left key true (drop j (paired (k ∷ ks) (x ∷ ns)))) (sym s)

pub next_left : (key : ℕ) (b : Bool) (ks ns : List ℕ) (q end t n : ℕ) {after : List Pair} → length ks ≡ length ns → 0 < length ks
    → q ≡ qualifier_of key b ks → end ≡ min (length ks) (piece_most (key_width key)) → t ≡ run q (take (end - 1) (drop 1 ks)) → n ≡ suc t
    → after ≡ drop n (paired ks ns)
    → pieces_left key b (paired ks ns) ≡ record { more = b; qualifier = q; numbers = take n ns } ∷ pieces_left key true after
next_left key b ks ns q end t n e z f g h s a =
    next_of key b ks ns q end t n e z f g h s
    ∙ ap (λ (ps : List Pair). record { more = b; qualifier = q; numbers = take n ns } ∷ pieces_left key true ps) (sym a)

-- so it takes one at least, and no more than there are
pub piece_some : {b : Bool} (len most end : ℕ) → b ≡ eqb len 0 → b ≡ false → end ≡ min len most → 0 < most → 0 < end
piece_some len most end e f g h = omega (arith, eqb-false len 0 (sym e ∙ f))

pub piece_within : (ks : List ℕ) (end t : ℕ) → 0 < end → t ≤ length (take (end - 1) (drop 1 ks)) → 1 + t ≤ end
piece_within ks end t h g = omega (arith, length-take (end - 1) (drop 1 ks))

-- none is left of nothing
pub none_left : (key : ℕ) (b : Bool) (ks ns : List ℕ) → length ks ≡ 0 → pieces_left key b (paired ks ns) ≡ []
unfolding pieces_left further cut paired
none_left key true [] ns e = refl
none_left key false [] ns e = refl
none_left key b (k ∷ ks) ns e = absurd (omega arith)

-- ---- the qualifier by the kinds

pub qualifier_begun : (key : ℕ) (ks : List ℕ) → 0 < length ks → get_or ks 0 0 ≡ qualifier_of key true ks
unfolding qualifier_of
qualifier_begun key [] h = absurd (omega arith)
qualifier_begun key (k ∷ ks) h = refl

-- of a start, by one identifier alone and by the next
pub qualifier_alone : (key : ℕ) (ks : List ℕ) → 0 < length ks → length ks ≤ 1 → first_of key (get_or ks 0 0) ≡ qualifier_of key false ks
unfolding qualifier_of start_qualifier
qualifier_alone key [] h g = absurd (omega arith)
qualifier_alone key (k ∷ []) h g = refl
qualifier_alone key (k ∷ (l ∷ ks)) h g = absurd (omega arith)

-- whatever stands for none
second_is : (ks : List ℕ) (d : ℕ) → 1 < length ks → get_or ks 1 d ≡ get_or ks 1 0
second_is [] d h = absurd (omega arith)
second_is (k ∷ []) d h = absurd (omega arith)
second_is (k ∷ (l ∷ ks)) d h = refl

qualifier_two : (key : ℕ) (ks : List ℕ) → 1 < length ks
    → cond (eqb (first_of key (get_or ks 1 0)) (get_or ks 0 0)) (get_or ks 1 0) (get_or ks 0 0) ≡ qualifier_of key false ks
unfolding qualifier_of start_qualifier
qualifier_two key [] h = absurd (omega arith)
qualifier_two key (k ∷ []) h = absurd (omega arith)
qualifier_two key (k ∷ (l ∷ ks)) h = refl

module _ (key : ℕ) (ks : List ℕ) (r y : ℕ) (two : 1 < length ks) (e : r ≡ first_of key y) (there : y ≡ get_or ks 1 y) where
  abbrev first : ℕ
  first = get_or ks 0 0

  qualifier_by : (b : Bool) → eqb (first_of key y) first ≡ b → cond b y first ≡ qualifier_of key false ks
  qualifier_by b f =
      let second : y ≡ get_or ks 1 0 = there ∙ second_is ks y two in
      ap (λ (x : Bool). cond x y first) (sym f) ∙ ap (λ (x : ℕ). cond (eqb (first_of key x) first) x first) second ∙ qualifier_two key ks two

  pub qualifier_next : r ≡ first → y ≡ qualifier_of key false ks
  qualifier_next t = qualifier_by true (eq-eqb (first_of key y) first (sym e ∙ t))

  pub qualifier_own : (r ≡ first → ⊥) → first ≡ qualifier_of key false ks
  qualifier_own t = qualifier_by false (ne_eqb (first_of key y) first (λ x. t (e ∙ x)))

-- ---- how many

chop_few : (most : ℕ) (c : Piece) (ps : List Pair) → length (chop most c ps) ≤ suc (length ps)
unfolding chop completed
chop_few most c [] = omega arith
chop_few most c (p ∷ ps) =
    let going = chop_few most (piece_with true c p) ps in
    let ending = chop_few most (piece_with false c p) ps in
    cases_bool (goes_on most c p) (λ e. rw e (omega arith)) (λ e. rw e (omega arith))

pub cut_few : (key : ℕ) (ps : List Pair) → length (cut key ps) ≤ length ps
unfolding cut
cut_few key [] = omega arith
cut_few key (p ∷ ps) = chop_few (piece_most (key_width key)) _ ps
