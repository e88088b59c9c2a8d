-- Laws of lists laid out in rows. In order: the pairs of a row; one turn of adding a field's identifiers to a row; a row copied.
use Prim.Native.Nat.{ℕ, zero, suc, ◌+◌, ◌-◌, ◌<◌, ◌≤◌, min}
use native.Mathlib.Nat.{le_of_suc-le-suc, not-suc-le-zero}
use native.Mathlib.Numerals.{add-one}
use native.Mathlib.Omega.{arith}
use mathlib.Core.Path.{◌≡◌, refl, sym, ap, ◌∙◌}
use mathlib.Core.Bool.{Bool, true, false}
use mathlib.Core.List.{List, [], ◌∷◌, ◌++◌}
use Rattle.std.specs.Prelude as Rust
use lib.ListN.{length, set, take, drop, replicate}
use lib.Seq.{length-take-le, take-suc-set, take_all, take_at}
use borrow.Author.Tests.{ltb-true, ltb-false}
use lib.Dec.{ltb}
use Rattle.rules.specs.Arrays.{padded}
use Rattle.rules.specs.Field.{Pair, pair, named_by}
use Rattle.rules.specs.Family.{member}
use Rattle.rules.specs.Collecting.{linkage, join_names, most_ids}
use Rattle.rules.specs.Outcomes.{overwritten}
use Rattle.rules.proofs.Basics.{cases_bool}
use Rattle.rules.proofs.Arrays.{set_padded}
use Rattle.field.specs.declared.Field.{Field}
use Rattle.field.specs.declared.Identifier.{Identifier}
use Rattle.field.specs.FieldStep.{identifier_at, pair_of}
use Rattle.lists.specs.declared.IdList.{IdList}
use Rattle.lists.specs.Stored.{paired, pairs_in, empty_list}
use Rattle.lists.specs.Grown.{put, grown, field_pairs, renamed, with_field}
use Rattle.lists.proofs.GrownLaws.{grown_there, grown_put, grown_full, grown_end, with_field_is}
use Rattle.reading.specs.declared.rows.Row.{Row}
use Rattle.reading.specs.Gathered.{row_list, packed, appended_as}

-- a row of this length that names these kinds
abbrev pub row_of : ℕ → ℕ → Row
row_of len named = record { len = len; named = named }

-- ---- the pairs of a row

pairs_front : (len : ℕ) (ks ns a b : List ℕ) → len ≤ length ks → len ≤ length ns → take len (paired (take len ks ++ a) (take len ns ++ b)) ≡ take len (paired ks ns)
unfolding paired
pairs_front zero ks ns a b h g = refl
pairs_front (suc len) [] ns a b h g = absurd (not-suc-le-zero h)
pairs_front (suc len) (k ∷ ks) [] a b h g = absurd (not-suc-le-zero g)
pairs_front (suc len) (k ∷ ks) (n ∷ ns) a b h g = ap (λ (r : List Pair). pair k n ∷ r) (pairs_front len ks ns a b (le_of_suc-le-suc h) (le_of_suc-le-suc g))

module _ (ns ks : List ℕ) (len named : ℕ) (hn : length ns ≡ most_ids) (hk : length ks ≡ most_ids) where
  pub row_pairs : len ≤ most_ids → pairs_in (row_list ns ks (row_of len named)).kinds (row_list ns ks (row_of len named)).numbers len ≡ pairs_in ks ns len
  unfolding pairs_in row_list padded
  row_pairs h = pairs_front len ks ns _ _ (omega arith) (omega arith)

  -- one pair more, stored at the row's end
  pub row_put : (p : Pair) → len < most_ids → put (row_list ns ks (row_of len named)) p ≡ row_list (set ns len p.number) (set ks len p.kind) (row_of (len + 1) named)
  unfolding put row_list
  row_put p h =
      let a = column ns p.number hn h in
      let b = column ks p.kind hk h in
      λ i. record { numbers = a i; kinds = b i; len = len + 1; named = named }
    where
      column : (xs : List ℕ) (v : ℕ) → length xs ≡ most_ids → len < most_ids → set (padded most_ids 0 (take len xs)) len v ≡ padded most_ids 0 (take (len + 1) (set xs len v))
      column xs v l h =
          set_padded most_ids len 0 v (take len xs) (length-take-le len xs (omega arith)) h
          ∙ ap (padded most_ids 0) (sym (rw (add-one len) (take-suc-set xs len v (omega arith))))

-- ---- one turn of the loop that adds a field's identifiers

module _ (body : List ℕ) (f : Field) (count i : ℕ) (ns ks : List ℕ) (len named : ℕ) (hn : length ns ≡ most_ids) (hk : length ks ≡ most_ids) (hl : len ≤ most_ids)
    (id : Identifier) (k n : ℕ) (e : id ≡ identifier_at body f i) (p : k ≡ (pair_of id).kind) (q : n ≡ (pair_of id).number)
    (b : Bool) (m : b ≡ member linkage (pair k n) (pairs_in ks ns len)) where
  abbrev row' : IdList
  row' = row_list ns ks (row_of len named)

  stands : b ≡ member linkage (pair k n) (pairs_in row'.kinds row'.numbers len)
  stands = m ∙ ap (member linkage (pair k n)) (sym (row_pairs ns ks len named hn hk hl))

  pub row_there : b ≡ true → i < count → grown row' (field_pairs body f (i + 1) (count - (i + 1))) ≡ grown row' (field_pairs body f i (count - i))
  unfolding row_list
  row_there t h = grown_there body f count i row' id k n e p q b stands t h

  pub row_more : b ≡ false → i < count → len < most_ids
      → grown (row_list (set ns len n) (set ks len k) (row_of (len + 1) named)) (field_pairs body f (i + 1) (count - (i + 1))) ≡ grown row' (field_pairs body f i (count - i))
  unfolding row_list pair
  row_more t h g =
      ap (λ (l : IdList). grown l (field_pairs body f (i + 1) (count - (i + 1)))) (sym (row_put ns ks len named hn hk (pair k n) g))
      ∙ grown_put body f count i row' id k n e p q b stands t h g

  pub row_full : b ≡ false → i < count → most_ids ≤ len → grown row' (field_pairs body f i (count - i)) ≡ Rust.None
  unfolding row_list
  row_full t h g = grown_full body f count i row' id k n e p q b stands t h g

-- the row at the end of a turn
pub row_from : {ns ns' ks ks' : List ℕ} {len len' : ℕ} (named : ℕ) (ps : List Pair) (g : Rust.Option IdList) → ns ≡ ns' → ks ≡ ks' → len ≡ len'
    → grown (row_list ns' ks' (row_of len' named)) ps ≡ g → grown (row_list ns ks (row_of len named)) ps ≡ g
row_from named ps g a b e h = (λ i. grown (row_list (a i) (b i) (row_of (e i) named)) ps) ∙ h

-- what the loop made is the row's list with the field
module _ (body : List ℕ) (f : Field) (ns ks : List ℕ) (r : Row) (named m : ℕ) (p : m ≡ named_by f.qualifier) (q : named ≡ join_names r.named m) where
  pub append_fits : (i len : ℕ) (ns' ks' : List ℕ)
      → grown (row_list ns' ks' (row_of len named)) (field_pairs body f i (f.count - i)) ≡ grown (row_list ns ks (row_of r.len named)) (field_pairs body f 0 f.count)
      → f.count ≤ i → appended_as (Rust.Some (row_of len named)) ns' ks' ≡ with_field (row_list ns ks r) body f
  unfolding appended_as renamed row_list
  append_fits i len ns' ks' e h =
      with_field_is (row_list ns ks r) body f named m (Rust.Some (row_list ns' ks' (row_of len named))) p q (sym e ∙ grown_end body f f.count i (row_list ns' ks' (row_of len named)) h)

  pub append_not : (ns' ks' : List ℕ) → Rust.None ≡ grown (row_list ns ks (row_of r.len named)) (field_pairs body f 0 f.count)
      → appended_as Rust.None ns' ks' ≡ with_field (row_list ns ks r) body f
  unfolding appended_as renamed row_list empty_list padded
  append_not ns' ks' e = with_field_is (row_list ns ks r) body f named m Rust.None p q (sym e)

-- ---- a row copied

drop_replicate : {A : Type 0} (m k : ℕ) (d : A) → drop m (replicate k d) ≡ replicate (k - m) d
drop_replicate zero k d =
    let e : k - 0 ≡ k = omega arith in
    ap (λ (n : ℕ). replicate n d) (sym e)
drop_replicate (suc m) zero d =
    let e : 0 - suc m ≡ 0 = omega arith in
    ap (λ (n : ℕ). replicate n d) (sym e)
drop_replicate (suc m) (suc k) d =
    let e : suc k - suc m ≡ k - m = omega arith in
    drop_replicate m k d ∙ ap (λ (n : ℕ). replicate n d) (sym e)

-- a row has 128 places
take_least : {A : Type 0} (xs : List A) (room len n : ℕ) → n ≡ min len room → length xs ≡ room → take n xs ≡ take len xs
take_least xs room len n e l =
    cases_bool (ltb len room)
    (λ t.
    let h : len < room = ltb-true len room t in
    let q : n ≡ len = omega arith in
    ap (λ (k : ℕ). take k xs) q)
    (λ f.
    let h : room ≤ len = ltb-false len room f in
    take_all n xs (omega arith) ∙ sym (take_all len xs (omega arith)))

-- a row's first places, in an array of zeros
pub copy_zeros : (xs : List ℕ) (room len n : ℕ) → n ≡ min len room → length xs ≡ room → overwritten (take n xs) (replicate room 0) ≡ padded room 0 (take len xs)
unfolding overwritten padded
copy_zeros xs room len n e l =
    ap (λ (r : List ℕ). r ++ drop (length (take n xs)) (replicate room 0)) (take_least xs room len n e l)
    ∙ ap (λ (r : List ℕ). take len xs ++ r) (drop_replicate (length (take n xs)) room 0 ∙ ap (λ (r : List ℕ). replicate (room - length r) 0) (take_least xs room len n e l))

-- the first places of a row that was copied over another
copy_front : (xs ys : List ℕ) (n : ℕ) → n ≤ length xs → take n (overwritten (take n xs) ys) ≡ take n xs
unfolding overwritten
copy_front xs ys n h = take_at (take n xs) (drop (length (take n xs)) ys) n (length-take-le n xs h)

pub row_copied : (ns ks ns' ks' sn sk : List ℕ) (n named : ℕ) → n ≤ length ns → n ≤ length ks → ns' ≡ overwritten (take n ns) sn → ks' ≡ overwritten (take n ks) sk
    → row_list ns' ks' (row_of n named) ≡ row_list ns ks (row_of n named)
unfolding row_list
row_copied ns ks ns' ks' sn sk n named h g p q =
    let a : take n ns' ≡ take n ns = ap (take n) p ∙ copy_front ns sn n h in
    let b : take n ks' ≡ take n ks = ap (take n) q ∙ copy_front ks sk n g in
    λ i. record { numbers = padded most_ids 0 (a i); kinds = padded most_ids 0 (b i); len = n; named = named }

-- a list laid out in a row
pub row_packed : (l : IdList) (ns' ks' sn sk : List ℕ) (n : ℕ) → length l.numbers ≡ most_ids → length l.kinds ≡ most_ids → n ≡ min l.len most_ids
    → ns' ≡ overwritten (take n l.numbers) sn → ks' ≡ overwritten (take n l.kinds) sk → row_list ns' ks' (row_of n l.named) ≡ packed l
unfolding packed
row_packed l ns' ks' sn sk n hn hk e p q =
    row_copied l.numbers l.kinds ns' ks' sn sk n l.named (omega arith) (omega arith) p q
    ∙ ap (λ (k : ℕ). row_list l.numbers l.kinds (row_of k l.named)) e
