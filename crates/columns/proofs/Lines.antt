-- Laws of the text in columns. In order: a cell that is filled up; the one cell of a row that is not blank; a block's number and the
-- end of a row; how long a row is; rows one after another, and how long those of a set are; a set by its parts, and how long it is; the
-- heading and the line of dashes.
use Prim.Native.Nat.{ℕ, zero, suc, ◌+◌, ◌-◌, ◌*◌, ◌/◌, ◌%◌, ◌^◌, ◌≤◌, ◌<◌}
use native.Mathlib.Nat.{zero-mul, suc-mul, pow-suc, div-lt_iff_lt-mul}
use native.Mathlib.Omega.{arith}
use mathlib.Core.Path.{◌≡◌, refl, sym, ap, ◌∙◌}
use mathlib.Core.Bool.{Bool, true, false, not, cond, ◌&&◌, ◌||◌}
use mathlib.Core.List.{List, [], ◌∷◌, ◌++◌, append-nil, append_assoc}
use mathlib.Core.Option.{Option, none, some}
use lib.ListN.{length, replicate, length-append, length-replicate}
use lib.Dec.{ltb, eqb}
use borrow.Author.Tests.{eqb-true, eqb-false, ne_eqb, lt-ltb, le-ltb}
use Rattle.rules.specs.Field.{Pair, dab, rds, drm}
use Rattle.rules.specs.Collecting.{Shown, key_width}
use Rattle.lists.specs.Kinds.{has_kind}
use Rattle.text.specs.Listing.{state_text}
use Rattle.out.specs.Text.{decimal_to, decimal}
use Rattle.out.proofs.Digits.{length_hex}
use Rattle.rules.proofs.Basics.{cases_bool}
use Rattle.rules.proofs.TableRules.{width_most}
use Rattle.columns.specs.Columns.{Cell, blank, code, dead, Row, row_of, code_rows, dead_rows, rows_of, filled, gap, cells_text, end_text, code_text, cell_text, number_text, row_text, rows_text, line_width, rule_text, names_text, last_name, heading_text}
use Rattle.columns.specs.Cells.{row_size}

-- ---- a cell that is filled up

-- a text, and the blanks after it
pub filled_parts : (csv : Bool) (width : ℕ) (text : List ℕ) → text ++ cond csv [] (replicate (width - length text) 32) ≡ filled csv width text
unfolding filled
filled_parts true width text = append-nil text
filled_parts false width text = refl

-- a text that leaves no room
pub filled_whole : (csv : Bool) (width : ℕ) (text : List ℕ) → width ≤ length text → text ≡ filled csv width text
unfolding filled
filled_whole true width text h = refl
filled_whole false width text h =
    let z : width - length text ≡ 0 = omega arith in
    sym (ap (λ (k : ℕ). text ++ replicate k 32) z ∙ append-nil text)

pub length_code : (csv : Bool) (digits n : ℕ) → length (code_text csv digits n) ≡ cond csv (2 + digits) digits
unfolding code_text
length_code true digits n = omega (arith, length_hex digits n)
length_code false digits n = length_hex digits n

-- the key leaves no room
pub filled_key : (csv : Bool) (key : ℕ) → code_text csv 4 key ≡ filled csv 4 (code_text csv 4 key)
filled_key true key = filled_whole true 4 _ (omega (arith, length_code true 4 key))
filled_key false key = filled_whole false 4 _ (omega (arith, length_code false 4 key))

-- a code, and the blanks after it
pub filled_code : (csv : Bool) (digits n room : ℕ) → room ≡ 9 - digits
    → code_text csv digits n ++ cond csv [] (replicate room 32) ≡ filled csv 9 (code_text csv digits n)
unfolding filled
filled_code true digits n room e = append-nil (code_text true digits n)
filled_code false digits n room e =
    let r : room ≡ 9 - length (code_text false digits n) = omega (arith, length_code false digits n) in
    ap (λ (k : ℕ). code_text false digits n ++ replicate k 32) r

-- for eyes a text that fits is as wide as its column
length_filled : (width : ℕ) (text : List ℕ) → length text ≤ width → length (filled false width text) ≡ width
unfolding filled
length_filled width text h = simp (length-append, length-replicate) (omega arith)

-- ---- the one cell of a row that is not blank

-- the third column has every kind above that of RDS
pub third_column : (kind : ℕ) (c : Cell) → cond (ltb 1 kind) c blank ≡ cond (eqb kind dab || eqb kind rds) blank c
third_column kind c =
    cases_bool (eqb kind 0)
    (λ e. rw (e, le-ltb 1 kind (omega (arith, eqb-true kind 0 e))))
    (λ e. cases_bool (eqb kind 1)
    (λ f. rw (e, f, le-ltb 1 kind (omega (arith, eqb-true kind 1 f))))
    (λ f. rw (e, f, lt-ltb 1 kind (omega (arith, eqb-false kind 0 e, eqb-false kind 1 f)))))

-- the three cells of a row are as long as the one
length_cells : (csv : Bool) (kind : ℕ) (c : Cell)
    → length (cell_text csv (cond (eqb kind dab) c blank)) + length (cell_text csv (cond (eqb kind rds) c blank))
    + length (cell_text csv (cond (eqb kind dab || eqb kind rds) blank c)) ≡ length (cell_text csv c)
unfolding cell_text
length_cells csv kind c =
    cases_bool (eqb kind 0)
    (λ e. rw (e, ne_eqb kind 1 (λ f. omega (arith, eqb-true kind 0 e))) (omega arith))
    (λ e. cases_bool (eqb kind 1) (λ f. rw (e, f) (omega arith)) (λ f. rw (e, f) (omega arith)))

-- ---- a block's number and the end of a row

-- a number below 10 to the n has n digits at most
few_digits : (j k n : ℕ) (text : List ℕ) → n < 10 ^ suc k → length (decimal_to j n text) ≤ suc k + length text
unfolding decimal_to
few_digits zero k n text h = omega arith
few_digits (suc j) zero n text h = rw (lt-ltb n 10 (omega arith)) (omega arith)
few_digits (suc j) (suc k) n text h =
    cases_bool (ltb n 10)
    (λ e. rw e (omega arith))
    (λ e. rw e
    (omega (arith, few_digits j k (n / 10) ((48 + n % 10) ∷ text) ((div-lt_iff_lt-mul {k = 10} (omega arith)).1 (rw (← pow-suc 10 (suc k)) h)))))

-- so a block's number fits its column
pub narrow_number : (n : ℕ) → n < 2 ^ 32 → length (decimal n) ≤ 10
unfolding decimal
narrow_number n h = omega (arith, few_digits 20 9 n [] (omega arith))

-- the end of a row that is not numbered, and of one that is
pub length_end_plain : (csv : Bool) → length (end_text csv none) ≡ 1
unfolding end_text
length_end_plain csv = refl

pub length_end_sheet : (n : ℕ) → length (end_text true (some (decimal n))) ≡ 2 + length (decimal n)
unfolding end_text gap filled
length_end_sheet n = simp length-append (omega arith)

pub length_end_eyes : (n : ℕ) → n < 2 ^ 32 → length (end_text false (some (decimal n))) ≡ 14
unfolding end_text gap
length_end_eyes n h = simp length-append (omega (arith, length_filled 10 (decimal n) (narrow_number n h)))

-- ---- how long a row is

narrow_cell : (b : Bool) (c : Cell) → length (cell_text false c) ≤ 9 → length (filled false 9 (cell_text false (cond b c blank))) ≡ 9
unfolding cell_text
narrow_cell true c h = length_filled 9 (cell_text false c) h
narrow_cell false c h = length_filled 9 [] (omega arith)

narrow_third : (b : Bool) (c : Cell) → length (cell_text false c) ≤ 9 → length (filled false 9 (cell_text false (cond b blank c))) ≡ 9
unfolding cell_text
narrow_third true c h = length_filled 9 [] (omega arith)
narrow_third false c h = length_filled 9 (cell_text false c) h

pub narrow_state : (on : Bool) → length (state_text on) ≤ 3
unfolding state_text
narrow_state true = omega arith
narrow_state false = omega arith

-- the text of the cell fits its column for eyes, and has m bytes in the other form
module _ (key : ℕ) (on : Bool) (b : Option ℕ) (kind : ℕ) (c : Cell) (m : ℕ) (eyes : length (cell_text false c) ≤ 9) (sheet : length (cell_text true c) ≡ m) where
  length_row_sheet : length (row_text true (row_of key on b kind c)) ≡ 10 + length (state_text on) + m + length (end_text true (number_text b))
  unfolding row_text row_of cells_text gap filled
  length_row_sheet = simp length-append (omega (arith, length_code true 4 key, length_cells true kind c))

  length_row_eyes : length (row_text false (row_of key on b kind c)) ≡ 48 + length (end_text false (number_text b))
  unfolding row_text row_of cells_text gap
  length_row_eyes =
      simp length-append
      (omega (
        arith,
        length_filled 4 (code_text false 4 key) (omega (arith, length_code false 4 key)),
        length_filled 5 (state_text on) (omega (arith, narrow_state on)),
        narrow_cell (eqb kind dab) c eyes,
        narrow_cell (eqb kind rds) c eyes,
        narrow_third (eqb kind dab || eqb kind rds) c eyes,
      ))

  length_row : (csv : Bool) → length (row_text csv (row_of key on b kind c)) ≡ row_size csv on b m
  unfolding row_size
  length_row true = length_row_sheet
  length_row false = length_row_eyes

-- ---- rows one after another

pub rows_append : (csv : Bool) (xs ys : List Row) → rows_text csv (xs ++ ys) ≡ rows_text csv xs ++ rows_text csv ys
unfolding rows_text
rows_append csv [] ys = refl
rows_append csv (x ∷ xs) ys =
    ap (λ (l : List ℕ). row_text csv x ++ l) (rows_append csv xs ys) ∙ sym (append_assoc (row_text csv x) (rows_text csv xs) (rows_text csv ys))

module _ (csv : Bool) (b : Option ℕ) (s : Shown) where
  -- a row of a code is as long as any other of its set
  length_code_row : (kind n : ℕ) → length (row_text csv (row_of s.key s.on b kind (code (2 * key_width s.key) n))) ≡ row_size csv s.on b (2 + 2 * key_width s.key)
  unfolding cell_text
  length_code_row kind n =
      let d : ℕ = 2 * key_width s.key in
      length_row s.key s.on b kind (code d n) (2 + d) (omega (arith, length_code false d n, width_most s.key)) (length_code true d n) csv

  pub length_codes : (ps : List Pair) → length (rows_text csv (code_rows b s ps)) ≡ length ps * row_size csv s.on b (2 + 2 * key_width s.key)
  unfolding rows_text code_rows
  length_codes [] = sym (zero-mul (row_size csv s.on b (2 + 2 * key_width s.key)))
  length_codes (p ∷ ps) =
      let m : ℕ = row_size csv s.on b (2 + 2 * key_width s.key) in
      length-append (row_text csv (row_of s.key s.on b p.kind (code (2 * key_width s.key) p.number))) (rows_text csv (code_rows b s ps))
      ∙ omega (arith, length_code_row p.kind p.number, length_codes ps, suc-mul (length ps) m)

  pub length_dead : (kind : ℕ) (named : Bool)
      → length (rows_text csv (dead_rows b s kind named)) ≡ cond (named && not (has_kind kind s.set.items)) (row_size csv s.on b 9) 0
  unfolding rows_text dead_rows cell_text
  length_dead kind named =
      cases_bool (named && not (has_kind kind s.set.items))
      (λ e. rw e (ap length (append-nil (row_text csv (row_of s.key s.on b kind dead))) ∙ length_row s.key s.on b kind dead 9 (omega arith) refl csv))
      (λ e. rw e)

-- ---- a set, and the line under it

module _ (csv : Bool) (b : Option ℕ) (s : Shown) (rule : List ℕ) where
  -- by its parts
  pub set_parts : rows_text csv (code_rows b s s.set.items) ++ rows_text csv (dead_rows b s rds (eqb (s.set.named % 2) 1))
      ++ rows_text csv (dead_rows b s drm (eqb (s.set.named / 2) 1)) ++ rule
      ≡ rows_text csv (rows_of b s) ++ rule
  unfolding rows_of
  set_parts =
      let codes = code_rows b s s.set.items in
      let r = dead_rows b s rds (eqb (s.set.named % 2) 1) in
      let m = dead_rows b s drm (eqb (s.set.named / 2) 1) in
      ap (λ (l : List ℕ). l ++ rule)
      (ap (λ (l : List ℕ). l ++ rows_text csv m) (sym (rows_append csv codes r)) ∙ sym (rows_append csv (codes ++ r) m))

  pub length-set : {codes r m line : ℕ}
      → codes ≡ length s.set.items * row_size csv s.on b (2 + 2 * key_width s.key)
      → r ≡ cond (eqb (s.set.named % 2) 1 && not (has_kind rds s.set.items)) (row_size csv s.on b 9) 0
      → m ≡ cond (eqb (s.set.named / 2) 1 && not (has_kind drm s.set.items)) (row_size csv s.on b 9) 0
      → line ≡ length rule
      → codes + r + m + line ≡ length (rows_text csv (rows_of b s) ++ rule)
  length-set c r m k =
      omega (
        arith,
        c ∙ sym (length_codes csv b s s.set.items),
        r ∙ sym (length_dead csv b s rds (eqb (s.set.named % 2) 1)),
        m ∙ sym (length_dead csv b s drm (eqb (s.set.named / 2) 1)),
        k,
        simp length-append at (ap length set_parts),
        length-append (rows_text csv (rows_of b s)) rule,
      )

-- ---- the heading and the line of dashes, for eyes

pub line_most : (numbered : Bool) → line_width numbered ≤ 61
unfolding line_width
line_most true = omega arith
line_most false = omega arith

pub length_rule : (numbered : Bool) → length (rule_text false numbered) ≡ line_width numbered + 1
unfolding rule_text
length_rule numbered = simp (length-append, length-replicate) (omega arith)

pub length_heading : (numbered : Bool) → length (heading_text false numbered ++ rule_text false numbered) ≡ 2 * (line_width numbered + 1)
unfolding heading_text names_text cells_text end_text last_name filled gap rule_text line_width
length_heading true = refl
length_heading false = refl
