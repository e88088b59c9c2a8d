-- Laws of the listing's text. In order: the kinds that a list names; its pairs, one after another; how long the texts are, and a set's line by its parts; that without
-- the numbers the whole is the listing, and with them the listing with numbers.
use Prim.Native.Nat.{ℕ, ◌+◌, ◌*◌, ◌/◌, ◌%◌}
use native.Mathlib.Nat.{zero-mul, suc-mul}
use native.Mathlib.Omega.{arith}
use mathlib.Core.Path.{◌≡◌, refl, sym, ap, ap₂, ◌∙◌}
use mathlib.Core.Logic.{◌⊎◌, inl, inr}
use mathlib.Core.Bool.{Bool, true, false, cond}
use mathlib.Core.List.{List, [], ◌∷◌, ◌++◌, map, append-nil}
use lib.ListN.{length, length-append, length-map}
use lib.Dec.{eqb}
use Rattle.rules.specs.Field.{Pair, pair, rds, drm}
use Rattle.rules.specs.Collecting.{Content, Shown, shown_sets, Confirmed, confirmed_sets, key_width, kind_named}
use Rattle.rules.proofs.Basics.{cases_bool}
use Rattle.rules.proofs.TableRules.{bare_shown, confirmed_shown}
use Rattle.out.specs.Text.{decimal}
use Rattle.text.specs.Listing.{state_text, pair_text, pairs_text, dead_text, ids_text, line_of, lines_of, tail_text, listing}
use Rattle.text.specs.Confirmed.{line_with, blocks_text, confirmed_line, confirmed_lines, confirmed_listing}
use Rattle.text.specs.Lines.{mark_text, number_text, lines_in, first_text, listed}
use Rattle.lists.specs.declared.IdList.{IdList}
use Rattle.lists.specs.Stored.{paired, pairs_in}
use Rattle.out.proofs.Digits.{length_hex}
use Rattle.sets.specs.Shown.{set_in, shown_as}

-- ---- the kinds that a list names

pub names_rds : (named : ℕ) → kind_named named rds ≡ eqb (named % 2) 1
unfolding kind_named
names_rds named = cases_bool (eqb (named % 2) 1) (λ e. rw e) (λ e. rw e)

pub names_drm : (named : ℕ) → kind_named named drm ≡ eqb (named / 2) 1
unfolding kind_named
names_drm named = refl

-- ---- kinds and numbers side by side, one pair after another

pub paired_next : {ks ks' ns ns' : List ℕ} {k n : ℕ} → ks ≡ k ∷ ks' → ns ≡ n ∷ ns' → paired ks ns ≡ pair k n ∷ paired ks' ns'
unfolding paired
paired_next e f = ap₂ paired e f

-- where one of the two is at its end there is no pair
pub paired_end : (ks ns : List ℕ) → (length ks ≡ 0) ⊎ (length ns ≡ 0) → paired ks ns ≡ []
unfolding paired
paired_end [] ns h = refl
paired_end (k ∷ ks) [] h = refl
paired_end (k ∷ ks) (n ∷ ns) h = absurd (elim h [ inl e ↦ omega arith | inr e ↦ omega arith ])

-- ---- how long the texts are

pub length_pairs_text : (w : ℕ) (ps : List Pair) → length (pairs_text w ps) ≡ length ps * (2 + 2 * w)
unfolding pairs_text pair_text
length_pairs_text w [] = sym (zero-mul (2 + 2 * w))
length_pairs_text w (p ∷ ps) =
    let m : ℕ = 2 + 2 * w in
    let here : length (pair_text w p) ≡ m = omega (arith, length_hex (2 * w) p.number) in
    length-append (pair_text w p) (pairs_text w ps)
    ∙ omega (arith, here, length_pairs_text w ps, suc-mul (length ps) m)

-- a text under a test
pub length_if : (b : Bool) (text : List ℕ) {n : ℕ} → n ≡ length text → cond b n 0 ≡ length (cond b text [])
length_if true text e = e
length_if false text e = refl

pub length_first : (numbered : Bool) (sets blocks : ℕ) {digits number : ℕ} → digits ≡ length (decimal sets) → number ≡ cond numbered (8 + length (decimal blocks)) 0
    → 6 + digits + number ≡ length (first_text numbered sets blocks)
unfolding first_text blocks_text
length_first numbered sets blocks d n = simp length-append (omega (arith, d, n ∙ length_if numbered (blocks_text blocks) (omega arith)))

module _ (text : List ℕ) (key : ℕ) (on : Bool) (list : IdList) where
  -- the line of a set, by its parts
  pub length_line : {state number digits pairs rds-mark drm-mark : ℕ}
      → state ≡ length (32 ∷ state_text on)
      → number ≡ length text
      → digits ≡ length (decimal (length (pairs_in list.kinds list.numbers list.len)))
      → pairs ≡ length (pairs_in list.kinds list.numbers list.len) * (2 + 2 * key_width key)
      → rds-mark ≡ length (mark_text rds list)
      → drm-mark ≡ length (mark_text drm list)
      → 4 + state + number + 5 + digits + pairs + (rds-mark + drm-mark) + 1 ≡ length (line_with text (shown_as key on list))
  unfolding line_with shown_as set_in ids_text
  length_line s n d p r m =
      let ids = pairs_in list.kinds list.numbers list.len in
      simp length-append
      (omega (
        arith,
        length_hex 4 key,
        length_pairs_text (key_width key) ids,
        ap (λ (b : Bool). length (dead_text rds b ids)) (names_rds list.named),
        ap (λ (b : Bool). length (dead_text drm b ids)) (names_drm list.named),
      ))

-- ---- the whole, without the numbers and with them

-- as many sets with their numbers as without
pub count_confirmed : (t : Content) → length (shown_sets t.sets) ≡ length (confirmed_sets t.sets)
count_confirmed t = ap length (sym (confirmed_shown t.sets)) ∙ length-map (confirmed_sets t.sets) bare_shown

pub line_plain : (s : Shown) → line_with [] s ≡ line_of s
unfolding line_with line_of
line_plain s = refl

plain_lines : (cs : List Confirmed) → lines_in false cs ≡ lines_of (map bare_shown cs)
unfolding lines_in number_text lines_of
plain_lines [] = refl
plain_lines (c ∷ cs) = ap₂ (λ (line lines : List ℕ). line ++ lines) (line_plain c.shown) (plain_lines cs)

pub listed_plain : (t : Content) (over : ℕ) → listed false t over ≡ listing t over
unfolding listed first_text listing
listed_plain t over =
    ap₂ (λ (first lines : List ℕ). first ++ 10 ∷ [] ++ lines ++ tail_text over)
    (append-nil _ ∙ ap (λ (n : ℕ). 115 ∷ 101 ∷ 116 ∷ 115 ∷ 32 ∷ decimal n) (sym (count_confirmed t)))
    (plain_lines (confirmed_sets t.sets) ∙ ap lines_of (confirmed_shown t.sets))

numbered_lines : (cs : List Confirmed) → lines_in true cs ≡ confirmed_lines cs
unfolding lines_in number_text confirmed_lines confirmed_line
numbered_lines [] = refl
numbered_lines (c ∷ cs) = ap (λ (l : List ℕ). confirmed_line c ++ l) (numbered_lines cs)

pub listed_numbered : (t : Content) (over : ℕ) → listed true t over ≡ confirmed_listing t over
unfolding listed first_text confirmed_listing
listed_numbered t over =
    ap (λ (lines : List ℕ). first_text true (length (confirmed_sets t.sets)) t.blocks ++ lines ++ tail_text over) (numbered_lines (confirmed_sets t.sets))
