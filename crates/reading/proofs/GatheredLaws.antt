-- Laws of all lists of a table laid out in columns. In order: which list stands at a place; a row exchanged; no lists.
use Prim.Native.Nat.{ℕ, zero, suc, ◌+◌, ◌-◌, ◌*◌, ◌<◌, ◌≤◌}
use native.Mathlib.Nat.{le_of_suc-le-suc, not-suc-le-zero}
use native.Mathlib.Numerals.{add-one}
use native.Mathlib.Omega.{arith}
use mathlib.Core.Path.{◌≡◌, refl, sym, ap, ap₂, ◌∙◌, subst}
use mathlib.Core.Bool.{Bool, true, false}
use mathlib.Core.List.{List, [], ◌∷◌, ◌++◌}
use lib.ListN.{length, get_or, set, take, drop, replicate, length-take, length-append, length-drop, length-set, get_or-replicate}
use lib.Seq.{take-nil, length-take-le, take_all, drop-drop, take-take, take-append-le, drop-append-le, take_at, drop_at, take-suc, take-suc-set, get_or-set_same, get_or-set_other}
use Rattle.rules.specs.Collecting.{most_keys, most_ids}
use Rattle.rules.specs.Arrays.{padded}
use Rattle.rules.proofs.Basics.{true-false}
use Rattle.lists.specs.declared.IdList.{IdList}
use Rattle.lists.specs.Stored.{empty_list}
use Rattle.sets.specs.Stored.{past}
use Rattle.reading.specs.declared.rows.Rows.{Rows}
use Rattle.reading.specs.Gathered.{places, row_list, row_lists, gathered, no_rows, Whole, Unchanged}
use Rattle.reading.proofs.RowLaws.{row_of}

-- ---- which list stands at a place

pub length_rows : (ns ks ls ms : List ℕ) → length ls ≡ length ms → length (row_lists ns ks ls ms) ≡ length ls
unfolding row_lists
length_rows ns ks [] ms e = refl
length_rows ns ks (l ∷ ls) [] e = absurd (omega arith)
length_rows ns ks (l ∷ ls) (m ∷ ms) e = ap suc (length_rows (drop most_ids ns) (drop most_ids ks) ls ms (omega arith))

-- the row at a place
abbrev pub row_at : ℕ → List ℕ → List ℕ
row_at p xs = take most_ids (drop (p * most_ids) xs)

row_later : (p : ℕ) (xs : List ℕ) → row_at p (drop most_ids xs) ≡ row_at (suc p) xs
row_later p xs =
    let e : most_ids + p * most_ids ≡ suc p * most_ids = omega arith in
    ap (take most_ids) (drop-drop (p * most_ids) most_ids xs ∙ ap (λ (k : ℕ). drop k xs) e)

pub get_d_rows : (ns ks ls ms : List ℕ) (p : ℕ) → length ls ≡ length ms → p < length ls
    → get_or (row_lists ns ks ls ms) p past ≡ row_list (row_at p ns) (row_at p ks) (row_of (get_or ls p 0) (get_or ms p 0))
unfolding row_lists
get_d_rows ns ks [] ms p e h = absurd (not-suc-le-zero h)
get_d_rows ns ks (l ∷ ls) [] p e h = absurd (omega arith)
get_d_rows ns ks (l ∷ ls) (m ∷ ms) zero e h = refl
get_d_rows ns ks (l ∷ ls) (m ∷ ms) (suc p) e h =
    get_d_rows (drop most_ids ns) (drop most_ids ks) ls ms p (omega arith) (le_of_suc-le-suc h)
    ∙ ap₂ (λ (a b : List ℕ). row_list a b (row_of (get_or ls p 0) (get_or ms p 0))) (row_later p ns) (row_later p ks)

-- ---- a row exchanged

-- a column with another row at a place
abbrev pub spliced : ℕ → List ℕ → List ℕ → List ℕ
spliced p row xs = take (p * most_ids) xs ++ (row ++ drop most_ids (drop (p * most_ids) xs))

splice_first : (row xs : List ℕ) → length row ≡ most_ids → take most_ids (spliced zero row xs) ≡ row
splice_first row xs l = take_at row (drop most_ids xs) most_ids l

splice_rest : (row xs : List ℕ) → length row ≡ most_ids → drop most_ids (spliced zero row xs) ≡ drop most_ids xs
splice_rest row xs l = drop_at row (drop most_ids xs) most_ids l

take_later : (n m : ℕ) (xs : List ℕ) → drop n (take (n + m) xs) ≡ take m (drop n xs)
take_later zero m xs =
    let e : 0 + m ≡ m = omega arith in
    ap (λ (k : ℕ). take k xs) e
take_later (suc n) m [] =
    let e : suc n + m ≡ suc (n + m) = omega arith in
    ap (λ (k : ℕ). drop (suc n) (take k [])) e ∙ sym (take-nil m)
take_later (suc n) m (x ∷ xs) =
    let e : suc n + m ≡ suc (n + m) = omega arith in
    ap (λ (k : ℕ). drop (suc n) (take k (x ∷ xs))) e ∙ take_later n m xs

module _ (p : ℕ) (row xs : List ℕ) (h : suc p * most_ids + most_ids ≤ length xs) where
  abbrev front : List ℕ
  front = take (suc p * most_ids) xs

  abbrev later : List ℕ
  later = row ++ drop most_ids (drop (suc p * most_ids) xs)

  front_long : most_ids ≤ length front
  front_long = rw (length-take-le (suc p * most_ids) xs (omega arith)) (omega arith)

  splice_before : take most_ids (spliced (suc p) row xs) ≡ take most_ids xs
  splice_before = take-append-le most_ids front later front_long ∙ take-take most_ids (suc p * most_ids) xs (omega arith)

  splice_later : drop most_ids (spliced (suc p) row xs) ≡ spliced p row (drop most_ids xs)
  splice_later =
      let a : suc p * most_ids ≡ most_ids + p * most_ids = omega arith in
      drop-append-le most_ids front later front_long
      ∙ ap₂ (λ (u v : List ℕ). u ++ (row ++ drop most_ids v))
      (ap (λ (k : ℕ). drop most_ids (take k xs)) a ∙ take_later most_ids (p * most_ids) xs)
      (ap (λ (k : ℕ). drop k xs) a ∙ sym (drop-drop (p * most_ids) most_ids xs))

set_rows : (ns ks ls ms : List ℕ) (p l m : ℕ) (row kinds : List ℕ) → length row ≡ most_ids → length kinds ≡ most_ids → length ls ≡ length ms → p < length ls
    → p * most_ids + most_ids ≤ length ns → p * most_ids + most_ids ≤ length ks
    → row_lists (spliced p row ns) (spliced p kinds ks) (set ls p l) (set ms p m) ≡ set (row_lists ns ks ls ms) p (row_list row kinds (row_of l m))
unfolding row_lists
set_rows ns ks [] ms p l m row kinds a b e h g k = absurd (not-suc-le-zero h)
set_rows ns ks (x ∷ ls) [] p l m row kinds a b e h g k = absurd (omega arith)
set_rows ns ks (x ∷ ls) (y ∷ ms) zero l m row kinds a b e h g k =
    λ i. row_list (splice_first row ns a i) (splice_first kinds ks b i) (row_of l m) ∷ row_lists (splice_rest row ns a i) (splice_rest kinds ks b i) ls ms
set_rows ns ks (x ∷ ls) (y ∷ ms) (suc p) l m row kinds a b e h g k =
    (λ i. row_list (splice_before p row ns g i) (splice_before p kinds ks k i) (row_of x y) ∷ row_lists (splice_later p row ns g i) (splice_later p kinds ks k i) (set ls p l) (set ms p m))
    ∙ ap (λ (r : List IdList). row_list (take most_ids ns) (take most_ids ks) (row_of x y) ∷ r)
    (set_rows (drop most_ids ns) (drop most_ids ks) ls ms p l m row kinds a b (omega arith) (le_of_suc-le-suc h) (rw (length-drop most_ids ns) (omega arith)) (rw (length-drop most_ids ks) (omega arith)))

-- ---- the row that the code lends: k places from p * 128 on, where k is 128

pub row_size_law : (p : ℕ) → p * most_ids + most_ids - p * most_ids ≡ most_ids
row_size_law p = omega arith

module _ (p k : ℕ) (k-is : k ≡ most_ids) (hp : p < most_keys) (xs : List ℕ) (l : length xs ≡ places) where
  pub part_row : take k (drop (p * most_ids) xs) ≡ row_at p xs
  part_row = ap (λ (n : ℕ). take n (drop (p * most_ids) xs)) k-is

  pub part_long : length (take k (drop (p * most_ids) xs)) ≡ most_ids
  part_long = length-take k (drop (p * most_ids) xs) ∙ rw (length-drop (p * most_ids) xs) (omega arith)

  module _ (row : List ℕ) (lr : length row ≡ most_ids) where
    pub part_splice : take (p * most_ids) xs ++ (row ++ drop k (drop (p * most_ids) xs)) ≡ spliced p row xs
    part_splice = ap (λ (n : ℕ). take (p * most_ids) xs ++ (row ++ drop n (drop (p * most_ids) xs))) k-is

    pub splice_long : length (take (p * most_ids) xs ++ (row ++ drop k (drop (p * most_ids) xs))) ≡ places
    splice_long =
        rw (length-append (take (p * most_ids) xs) (row ++ drop k (drop (p * most_ids) xs)), length-append row (drop k (drop (p * most_ids) xs)), length-take-le (p * most_ids) xs (omega arith), length-drop k (drop (p * most_ids) xs), length-drop (p * most_ids) xs)
        (omega arith)

-- ---- all rows

module _ (ns ks : List ℕ) (rows : Rows) (w : Whole ns ks rows) where
  pub length_gathered : length (gathered ns ks rows) ≡ most_keys
  unfolding gathered
  length_gathered = length_rows ns ks rows.lens rows.names (omega arith) ∙ w.lens

  module _ (p k : ℕ) (k-is : k ≡ most_ids) (hp : p < most_keys) where
    pub gathered_at : get_or (gathered ns ks rows) p past
        ≡ row_list (take k (drop (p * most_ids) ns)) (take k (drop (p * most_ids) ks)) (row_of (get_or rows.lens p 0) (get_or rows.names p 0))
    unfolding gathered
    gathered_at =
        get_d_rows ns ks rows.lens rows.names p (omega arith) (omega arith)
        ∙ sym (ap₂ (λ (a b : List ℕ). row_list a b (row_of (get_or rows.lens p 0) (get_or rows.names p 0))) (part_row p k k-is hp ns w.numbers) (part_row p k k-is hp ks w.kinds))

    pub gathered_set : (row kinds : List ℕ) → length row ≡ most_ids → length kinds ≡ most_ids → (l m : ℕ) (c : Bool)
        → gathered (take (p * most_ids) ns ++ (row ++ drop k (drop (p * most_ids) ns))) (take (p * most_ids) ks ++ (kinds ++ drop k (drop (p * most_ids) ks))) (record { lens = set rows.lens p l; names = set rows.names p m; changed = set rows.changed p c })
        ≡ set (gathered ns ks rows) p (row_list row kinds (row_of l m))
    unfolding gathered
    gathered_set row kinds a b l m c =
        ap₂ (λ (u v : List ℕ). row_lists u v (set rows.lens p l) (set rows.names p m)) (part_splice p k k-is hp ns w.numbers row a) (part_splice p k k-is hp ks w.kinds kinds b)
        ∙ set_rows ns ks rows.lens rows.names p l m row kinds a b (omega arith) (omega arith) (omega (arith, w.numbers)) (omega (arith, w.kinds))

-- lists laid out are those rows, whatever changed; and where a row is exchanged and marked, those that did not change still are
pub unchanged_laid : (lists : List IdList) (ns ks : List ℕ) (rows : Rows) → gathered ns ks rows ≡ lists → Unchanged lists ns ks rows
unchanged_laid lists ns ks rows e p h f = ap (λ (l : List IdList). get_or l p past) (sym e)

pub unchanged_set : (lists : List IdList) (ns ks ns' ks' : List ℕ) (rows rows' : Rows) (p : ℕ) (v : IdList) → p < length rows.changed → rows'.changed ≡ set rows.changed p true
    → gathered ns' ks' rows' ≡ set (gathered ns ks rows) p v → Unchanged lists ns ks rows → Unchanged lists ns' ks' rows'
unchanged_set lists ns ks ns' ks' rows rows' p v l c e u q h f =
    let marked : get_or (set rows.changed p true) q false ≡ false = ap (λ (b : List Bool). get_or b q false) (sym c) ∙ f in
    let other : q ≡ p → ⊥ = λ i. true-false (get_or-set_same rows.changed p true false l) (subst (λ (j : ℕ). get_or (set rows.changed p true) j false ≡ false) i marked) in
    u q h (sym (get_or-set_other rows.changed p q true false other) ∙ marked)
    ∙ sym (get_or-set_other (gathered ns ks rows) p q v past other) ∙ ap (λ (x : List IdList). get_or x q past) (sym e)

-- one turn of gathering, and of laying out: the lists up to a place, and the next
pub next_list : {A : Type 0} (xs ys : List A) (p : ℕ) (v d : A) → p < length xs → p < length ys → take p xs ≡ take p ys → v ≡ get_or ys p d → take (p + 1) (set xs p v) ≡ take (p + 1) ys
next_list xs ys p v d h g e q =
    rw (add-one p) (take-suc-set xs p v h ∙ ap₂ (λ a b. a ++ (b ∷ [])) e q ∙ sym (take-suc ys p d g))

-- gathering, with the rows up to a place taken up: the lists laid out from there on
pub record Gathering (laid rows lists : List IdList) (p : ℕ) : Type 0 where
  pub within : p ≤ most_keys
  pub long : length lists ≡ most_keys
  pub front : take p lists ≡ take p rows
  pub rest : (q : ℕ) → p ≤ q → get_or lists q past ≡ get_or laid q past

module _ {laid rows lists : List IdList} {p : ℕ} (G : Gathering laid rows lists p) (long : length rows ≡ most_keys) where
  -- a row that changed
  pub gathering_changed : p < most_keys → (v : IdList) → v ≡ get_or rows p past → (lists' : List IdList) → lists' ≡ set lists p v → Gathering laid rows lists' (p + 1)
  gathering_changed h v e lists' le =
      rw le
      (record {
        within = omega arith;
        long = length-set lists p v ∙ G.long;
        front = next_list lists rows p v past (omega (arith, G.long)) (omega arith) G.front e;
        rest = λ q g. get_or-set_other lists p q v past (λ i. omega arith) ∙ G.rest q (omega arith);
      })

  -- one that did not
  pub gathering_same : p < most_keys → get_or laid p past ≡ get_or rows p past → (lists' : List IdList) → lists' ≡ lists → Gathering laid rows lists' (p + 1)
  gathering_same h e lists' le =
      rw le
      (record {
        within = omega arith;
        long = G.long;
        front =
            rw (add-one p)
            (take-suc lists p past (omega (arith, G.long)) ∙ ap₂ (λ (a : List IdList) (b : IdList). a ++ (b ∷ [])) G.front (G.rest p (omega arith) ∙ e) ∙ sym (take-suc rows p past (omega arith)));
        rest = λ q g. G.rest q (omega arith);
      })

  -- the end
  pub gathering_end : most_keys ≤ p → lists ≡ rows
  gathering_end h = sym (take_all p lists (omega (arith, G.long))) ∙ G.front ∙ take_all p rows (omega arith)

-- ---- no lists

rows_none : (n : ℕ) (ns ks : List ℕ) → row_lists ns ks (replicate n 0) (replicate n 0) ≡ replicate n empty_list
unfolding row_lists row_list empty_list padded
rows_none zero ns ks = refl
rows_none (suc n) ns ks = ap (λ (r : List IdList). empty_list ∷ r) (rows_none n (drop most_ids ns) (drop most_ids ks))

pub gathered_none : (ns ks : List ℕ) → gathered ns ks no_rows ≡ replicate most_keys empty_list
unfolding gathered no_rows
gathered_none ns ks = rows_none most_keys ns ks

pub unchanged_none : (lists : List IdList) (ns ks : List ℕ) → Unchanged lists ns ks no_rows
unfolding no_rows
unchanged_none lists ns ks p h f = true-false (get_or-replicate most_keys p true false h) f
