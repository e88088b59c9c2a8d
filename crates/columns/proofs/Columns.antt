-- What the rows promise. In order: each row has one cell that is not blank; rows one after another, and rows without a code; the
-- DAB column and the FM column have the numbers of the set's identifiers of their kind, all of them and in order; so has the
-- column of DRM or AMSS, of a set whose kinds are the three that there are, and so of every set that a table shows. All of that
-- whether rows are numbered or not. Last, the column of the numbers.
use Prim.Native.Nat.{ℕ, ◌*◌, ◌/◌, ◌%◌, ◌^◌}
use native.Mathlib.Omega.{arith}
use mathlib.Core.Path.{◌≡◌, refl, ap, ◌∙◌}
use mathlib.Core.Bool.{Bool, true, false, not, cond, ◌&&◌, ◌||◌}
use mathlib.Core.List.{List, [], ◌∷◌, ◌++◌}
use mathlib.Core.Option.{Option, none, some}
use lib.Dec.{ltb, eqb}
use borrow.Author.Tests.{eqb-true, ne_eqb}
use Rattle.rules.specs.Field.{Pair, dab, rds, drm}
use Rattle.rules.specs.Collecting.{Content, Shown, shown_sets, Confirmed, key_width, kind_named, pairs_meet, meets}
use Rattle.lists.specs.Kinds.{has_kind}
use Rattle.rules.proofs.Basics.{cases_bool, and_left, and_right, Every, every_append}
use Rattle.rules.proofs.TableRules.{set_rules, each_shown}
use Rattle.columns.specs.Columns.{Cell, blank, code, dead, Row, number_if, row_of, code_rows, dead_rows, rows_of, code_in, codes_in, numbers_of, stands_in, cells_in}

-- ---- one cell in a row

one_cell : (key : ℕ) (on : Bool) (b : Option ℕ) (kind : ℕ) (c : Cell) → stands_in c ≡ 1 → cells_in (row_of key on b kind c) ≡ 1
unfolding cells_in stands_in row_of
one_cell key on b kind c h =
    cases_bool (eqb kind 0)
    (λ e. rw (e, ne_eqb kind 1 (λ f. omega (arith, eqb-true kind 0 e))) (omega arith))
    (λ e. cases_bool (eqb kind 1) (λ f. rw (e, f) (omega arith)) (λ f. rw (e, f) (omega arith)))

-- what holds of each row of a code, and of the row of each dead link, holds of every row of a set
module _ (P : Row → Type 0) (b : Option ℕ) (s : Shown)
    (live : (kind n : ℕ) → P (row_of s.key s.on b kind (code (2 * key_width s.key) n)))
    (gone : (kind : ℕ) → P (row_of s.key s.on b kind dead)) where
  each_code : (ps : List Pair) → Every P (code_rows b s ps)
  unfolding code_rows
  each_code [] = tt
  each_code (p ∷ ps) = (live p.kind p.number, each_code ps)

  every_if : (t : Bool) (r : Row) → P r → Every P (cond t (r ∷ []) [])
  every_if true r h = (h, tt)
  every_if false r h = tt

  each_dead : (kind : ℕ) (named : Bool) → Every P (dead_rows b s kind named)
  unfolding dead_rows
  each_dead kind named = every_if (named && not (has_kind kind s.set.items)) _ (gone kind)

  every_row : Every P (rows_of b s)
  unfolding rows_of
  every_row =
      let r = eqb (s.set.named % 2) 1 in
      let m = eqb (s.set.named / 2) 1 in
      every_append P (code_rows b s s.set.items ++ dead_rows b s rds r) (dead_rows b s drm m)
      (every_append P (code_rows b s s.set.items) (dead_rows b s rds r) (each_code s.set.items) (each_dead rds r))
      (each_dead drm m)

-- what stands side by side in a row is no pair of codes: one of its three cells has something, the others nothing
pub one_in_a_row : (b : Option ℕ) (s : Shown) → Every (λ (r : Row). cells_in r ≡ 1) (rows_of b s)
unfolding stands_in
one_in_a_row b s =
    every_row (λ (r : Row). cells_in r ≡ 1) b s
    (λ kind n. one_cell s.key s.on b kind (code (2 * key_width s.key) n) refl)
    (λ kind. one_cell s.key s.on b kind dead refl)

-- ---- rows one after another, and rows without a code

module _ (column : Row → Cell) where
  codes_append : (xs ys : List Row) → codes_in column ys ≡ [] → codes_in column (xs ++ ys) ≡ codes_in column xs
  unfolding codes_in
  codes_append [] ys e = e
  codes_append (x ∷ xs) ys e = ap (code_in (column x)) (codes_append xs ys e)

  -- the row of a dead link has no code here, whether it stands or not
  no_code : (b : Bool) (r : Row) → code_in (column r) [] ≡ [] → codes_in column (cond b (r ∷ []) []) ≡ []
  unfolding codes_in
  no_code true r e = e
  no_code false r e = refl

  module _ (b : Option ℕ) (s : Shown) (blind : (kind : ℕ) → code_in (column (row_of s.key s.on b kind dead)) [] ≡ []) where
    codes_dead : (kind : ℕ) (named : Bool) → codes_in column (dead_rows b s kind named) ≡ []
    unfolding dead_rows
    codes_dead kind named = no_code (named && not (has_kind kind s.set.items)) _ (blind kind)

    -- what a column has, it has from the rows of the identifiers
    codes_live : codes_in column (rows_of b s) ≡ codes_in column (code_rows b s s.set.items)
    unfolding rows_of
    codes_live = codes_append _ _ (codes_dead drm _) ∙ codes_append _ _ (codes_dead rds _)

-- a cell that has its code, or a dead link, under a test, and one that has it otherwise
code_if : (b : Bool) (digits n : ℕ) (rest : List ℕ) → code_in (cond b (code digits n) blank) rest ≡ cond b (n ∷ rest) rest
unfolding code_in
code_if true digits n rest = refl
code_if false digits n rest = refl

dead_if : (b : Bool) → code_in (cond b dead blank) [] ≡ []
unfolding code_in
dead_if true = refl
dead_if false = refl

dead_unless : (b : Bool) → code_in (cond b blank dead) [] ≡ []
unfolding code_in
dead_unless true = refl
dead_unless false = refl

-- ---- the DAB column

dab_codes : (b : Option ℕ) (s : Shown) (ps : List Pair) → codes_in (λ (r : Row). r.dabs) (code_rows b s ps) ≡ numbers_of dab ps
unfolding codes_in code_rows row_of numbers_of
dab_codes b s [] = refl
dab_codes b s (p ∷ ps) =
    ap (code_in (cond (eqb p.kind dab) (code (2 * key_width s.key) p.number) blank)) (dab_codes b s ps)
    ∙ code_if (eqb p.kind dab) (2 * key_width s.key) p.number (numbers_of dab ps)

-- the DAB column of a set has the numbers of its DAB services, all of them, in order
pub dab_column : (b : Option ℕ) (s : Shown) → codes_in (λ (r : Row). r.dabs) (rows_of b s) ≡ numbers_of dab s.set.items
unfolding row_of
dab_column b s = codes_live (λ (r : Row). r.dabs) b s (λ kind. dead_if (eqb kind dab)) ∙ dab_codes b s s.set.items

-- ---- the FM column

fm_codes : (b : Option ℕ) (s : Shown) (ps : List Pair) → codes_in (λ (r : Row). r.fms) (code_rows b s ps) ≡ numbers_of rds ps
unfolding codes_in code_rows row_of numbers_of
fm_codes b s [] = refl
fm_codes b s (p ∷ ps) =
    ap (code_in (cond (eqb p.kind rds) (code (2 * key_width s.key) p.number) blank)) (fm_codes b s ps)
    ∙ code_if (eqb p.kind rds) (2 * key_width s.key) p.number (numbers_of rds ps)

-- the FM column has the numbers of its RDS codes, all of them, in order
pub fm_column : (b : Option ℕ) (s : Shown) → codes_in (λ (r : Row). r.fms) (rows_of b s) ≡ numbers_of rds s.set.items
unfolding row_of
fm_column b s = codes_live (λ (r : Row). r.fms) b s (λ kind. dead_if (eqb kind rds)) ∙ fm_codes b s s.set.items

-- ---- the column of DRM or AMSS

-- of the three kinds it is the one that is neither DAB nor RDS
drm_code : (named kind digits n : ℕ) (rest : List ℕ) → kind_named named kind ≡ true
    → code_in (cond (eqb kind dab || eqb kind rds) blank (code digits n)) rest ≡ cond (eqb kind drm) (n ∷ rest) rest
unfolding code_in kind_named
drm_code named kind digits n rest h =
    cases_bool (eqb kind 0)
    (λ e. rw (e, ne_eqb kind 3 (λ f. omega (arith, eqb-true kind 0 e))))
    (λ e. cases_bool (eqb kind 1)
    (λ f. rw (e, f, ne_eqb kind 3 (λ g. omega (arith, eqb-true kind 1 f))))
    (λ f. rw (e, f, and_left (eqb kind 3) (eqb (named / 2) 1) (rw (e, f) at h))))

drm_codes : (b : Option ℕ) (s : Shown) (w named : ℕ) (ps : List Pair) → pairs_meet w named ps ≡ true → codes_in (λ (r : Row). r.drms) (code_rows b s ps) ≡ numbers_of drm ps
unfolding codes_in code_rows row_of numbers_of pairs_meet
drm_codes b s w named [] m = refl
drm_codes b s w named (p ∷ ps) m =
    let fits = ltb p.number (256 ^ w) in
    let here = and_right fits (kind_named named p.kind) (and_left (fits && kind_named named p.kind) (pairs_meet w named ps) m) in
    let later = and_right (fits && kind_named named p.kind) (pairs_meet w named ps) m in
    ap (code_in (cond (eqb p.kind dab || eqb p.kind rds) blank (code (2 * key_width s.key) p.number))) (drm_codes b s w named ps later)
    ∙ drm_code named p.kind (2 * key_width s.key) p.number (numbers_of drm ps) here

-- the third column has those of DRM or AMSS, where every kind is one of the three (the table rules, `pairs_meet`)
pub drm_column : (w : ℕ) (b : Option ℕ) (s : Shown) → pairs_meet w s.set.named s.set.items ≡ true
    → codes_in (λ (r : Row). r.drms) (rows_of b s) ≡ numbers_of drm s.set.items
unfolding row_of
drm_column w b s m =
    codes_live (λ (r : Row). r.drms) b s (λ kind. dead_unless (eqb kind dab || eqb kind rds))
    ∙ drm_codes b s w s.set.named s.set.items m

-- what that says of a set, with whatever number or none
abbrev pub DrmColumn : Shown → Type 0
DrmColumn s = (b : Option ℕ) → codes_in (λ (r : Row). r.drms) (rows_of b s) ≡ numbers_of drm s.set.items

-- as the rules hold of every set that a table shows
pub drm_columns : (c : Content) → meets c ≡ true → Every DrmColumn (shown_sets c.sets)
drm_columns = each_shown DrmColumn (λ s m b. drm_column (key_width s.key) b s ((set_rules s.key s.set).0 m).pairs)

-- ---- the column of the numbers

number_in_rows : (b : Option ℕ) (s : Shown) → Every (λ (r : Row). r.block ≡ b) (rows_of b s)
unfolding row_of
number_in_rows b s = every_row (λ (r : Row). r.block ≡ b) b s (λ kind n. refl) (λ kind. refl)

-- where rows are numbered, each row of a set has the set's number
pub numbered_rows : (c : Confirmed) → Every (λ (r : Row). r.block ≡ some c.block) (rows_of (number_if true c.block) c.shown)
unfolding number_if
numbered_rows c = number_in_rows (some c.block) c.shown

-- and else none
pub plain_rows : (c : Confirmed) → Every (λ (r : Row). r.block ≡ none) (rows_of (number_if false c.block) c.shown)
unfolding number_if
plain_rows c = number_in_rows none c.shown
