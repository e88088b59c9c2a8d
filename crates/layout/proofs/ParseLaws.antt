-- That the parser of specs/Parse.antt is exact, in this order: going on after a step; a number; pairs; sets; the sheet, with
-- what loading answers; and the loops a turn at a time, as a program's loop takes them. Of each step there are two laws:
-- what it read stands in the bytes and meets the rules (..-read), and what stands there and meets them is read (..-readable).
-- The main ones: parse_none, parse_loads, and groups_turn, pairs_turn, sets_turn.
use Prim.Native.Nat.{ℕ, zero, suc, ◌+◌, ◌-◌, ◌*◌, ◌/◌, ◌%◌, ◌^◌, ◌≤◌, ◌<◌}
use mathlib.Core.Path.{◌≡◌, refl, sym, ◌∙◌, ap, ap₂, subst}
use mathlib.Core.Bool.{Bool, true, false, not, cond, ◌&&◌, ◌||◌, and-false, and_assoc, or-false, or-true}
use mathlib.Core.List.{List, [], ◌∷◌, ◌++◌, map, append_assoc, append-nil}
use mathlib.Core.Logic.{◌↔◌}
use mathlib.Core.Option.{Option, none, some, some-injective, none-ne-some}
use native.Mathlib.Nat.{pow-suc, pow-le-pow_right, one-le-pow, mul-le-mul_right, add-mul, mul_assoc, mul_comm, mul_left_comm}
use native.Mathlib.Numerals.{add-one}
use native.Mathlib.Omega.{arith}
use lib.ListN.{length, get_or, drop, length-map}
use lib.Seq.{append_snoc, drop-length}
use lib.Dec.{leb, ltb, eqb, eqb-suc-zero}
use borrow.Author.Tests.{ltb-true, ltb-false, leb-true, leb-false, eqb-true, eqb-false, not-true, lt-ltb, le-ltb, le-leb, lt-leb, eq-eqb, ne_eqb}
use Rattle.rules.specs.declared.Outcome.{Outcome}
use Rattle.rules.specs.declared.Outcome.TheVariants.{Done, NotASheet}
use Rattle.rules.specs.Block.{bit}
use Rattle.rules.specs.Field.{Pair, pair}
use Rattle.rules.specs.Family.{member}
use Rattle.rules.specs.Collecting.{linkage, Entries, Content, nothing, just_sets, Shown, is_key, key_width, all_differ, may_begin, begins_right, kind_named, pairs_meet, names_meet, entry_meets, ascends, entries_meet, meets, shown_sets, most_keys, most_ids}
use Rattle.layout.specs.Sheet.{groups, sheet_number, sheet_pairs, sheet_set, sheet_sets, sheet, alone, just_shown, Load, accepted, not_a_sheet}
use Rattle.rules.proofs.Basics.{cases_bool, cases-option, true-false, and_left, and_right, and_both, bit_small}
use Rattle.rules.proofs.FamilyLaws.{different_snoc}
use Rattle.rules.proofs.TableRules.{lawful, kind_small, names_small, width_most, within_width, all_differ_law, differ_before, pair_rules, some_there, not_empty_law, key_meets_law, table_rules, sets_meet_law, shown_few}
use Rattle.layout.proofs.Standing.{Bytes, Stands, byte_ahead, stands_byte, stands_none, stands_append, stands_first, stands_second, stands_to, stands_by}
use Rattle.layout.proofs.Laws.{groups_small, groups_large, ShownRules, shown_rules, alone_meet, shown_ascends, shown_entries, shown_alone}
use Rattle.layout.specs.Parse.{Read, and_then, read_groups, read_number, read_if, kind_fits, number_fits, read_pair, read_pairs, key_fits, count_fits, Head, read_head, set_of, read_set, read_sets, parse_sheet}

-- ---- going on

module _ {A B : Type 0} where
  -- where going on gave something, something was read
  pub then_some : {C : Type 0} {b : B} (o : Option (Read A)) (go : A → ℕ → Option B) → and_then o go ≡ some b
      → ((r : Read A) → o ≡ some r → go r.value r.next ≡ some b → C) → C
  unfolding and_then
  then_some none go e k = absurd (none-ne-some _ e)
  then_some (some r) go e k = k r refl e

  pub then_go : {o : Option (Read A)} (go : A → ℕ → Option B) (r : Read A) → o ≡ some r → and_then o go ≡ go r.value r.next
  unfolding and_then
  then_go go r e = rw e

  pub then_none : {o : Option (Read A)} (go : A → ℕ → Option B) → o ≡ none → and_then o go ≡ none
  unfolding and_then
  then_none go e = rw e

-- a test passed where something came of it
pub cond_some : {B : Type 0} (t : Bool) (o : Option B) {b : B} → cond t o none ≡ some b → (t ≡ true) × (o ≡ some b)
cond_some true o e = (refl, e)
cond_some false o e = absurd (none-ne-some _ e)

pub cond_none : {B : Type 0} (t : Bool) (o : Option B) {b : B} → cond t none o ≡ some b → (t ≡ false) × (o ≡ some b)
cond_none true o e = absurd (none-ne-some _ e)
cond_none false o e = (refl, e)

-- ---- a number

-- the groups so far and the rest as one number
regroup : (v x n s : ℕ) → v + x * s + n * (s * 128) ≡ v + (x + n * 128) * s
regroup v x n s = simp (add-mul, mul_assoc, mul_comm, mul_left_comm) (omega arith)

-- a byte in front of a number's groups
pub groups_next : (m b n : ℕ) → 128 ≤ b → b < 256 → 0 < n → groups (suc m) (b % 128 + n * 128) ≡ b ∷ groups m n
groups_next m b n l h p =
    let n' = b % 128 + n * 128 in
    let low : n' % 128 + 128 ≡ b = omega arith in
    let high : n' / 128 ≡ n = omega arith in
    groups_large m n' (omega arith) ∙ ap₂ (λ (x y : ℕ). x ∷ groups m y) low high

-- what reading a byte found out
pub record Byte (left scale value : ℕ) (bytes : List ℕ) (at : ℕ) (r : Read ℕ) : Type 0 where
  pub there : at < length bytes
  pub fifth : left ≡ 0 → get_or bytes at 0 ≤ 15
  pub fewest : eqb scale 1 ≡ false → 0 < get_or bytes at 0
  pub goes :
      cond (ltb (get_or bytes at 0) 128) (some (record { value = value + get_or bytes at 0 * scale; next = at + 1 }))
      (read_groups left (scale * 128) (value + get_or bytes at 0 % 128 * scale) bytes (at + 1))
      ≡ some r

-- of a conjunction that is false, the other part
and_not : (a b : Bool) → a && b ≡ false → a ≡ true → b ≡ false
and_not true b e q = e
and_not false b e q = true-false q refl

not_and : (a b : Bool) → a && b ≡ false → b ≡ true → a ≡ false
not_and true b e q = true-false q e
not_and false b e q = refl

pub byte_read : (left scale value : ℕ) (bytes : List ℕ) (at : ℕ) {r : Read ℕ}
    → read_groups (suc left) scale value bytes at ≡ some r → Byte left scale value bytes at r
unfolding read_groups
byte_read left scale value bytes at {r} e =
    let b = get_or bytes at 0 in
    let c1 = cond_none (leb (length bytes) at) _ e in
    let c2 = cond_none (eqb left 0 && ltb 15 b) _ c1.1 in
    let c3 = cond_none (eqb b 0 && not (eqb scale 1)) _ c2.1 in
    record {
      there = leb-false (length bytes) at c1.0;
      fifth = λ q. ltb-false 15 b (and_not (eqb left 0) (ltb 15 b) c2.0 (eq-eqb left 0 q));
      fewest = λ q.
          let z = eqb-false b 0 (not_and (eqb b 0) (not (eqb scale 1)) c3.0 (rw q)) in
          omega arith;
      goes = c3.1;
    }

-- what was read in at most suc left bytes: a rest n of which the value is made
pub record Rest (left scale value : ℕ) (bytes : List ℕ) (at : ℕ) (r : Read ℕ) : Type 0 where
  pub n : ℕ
  pub whole : r.value ≡ value + n * scale
  pub below : n < 16 * 128 ^ left
  pub fewest : eqb scale 1 ≡ false → 0 < n
  pub stands : Stands (groups (suc left) n) bytes at r.next

-- the last byte of a number
last_read : (left scale value : ℕ) (bytes : List ℕ) (at : ℕ) {r : Read ℕ} → Byte left scale value bytes at r
    → get_or bytes at 0 < 16 * 128 ^ left → get_or bytes at 0 < 128 → Rest left scale value bytes at r
last_read left scale value bytes at {r} h l small =
    let b = get_or bytes at 0 in
    let e = some-injective _ _ (rw (lt-ltb b 128 small) at h.goes) in
    record {
      n = b;
      whole = ap (λ (x : Read ℕ). x.value) (sym e);
      below = l;
      fewest = h.fewest;
      stands = stands_to (ap (λ (x : Read ℕ). x.next) e) (rw (groups_small left b small) (stands_byte bytes at h.there));
    }

-- and all of them
pub groups_read : (left scale value : ℕ) (bytes : List ℕ) (at : ℕ) {r : Read ℕ} → Bytes bytes
    → read_groups (suc left) scale value bytes at ≡ some r → Rest left scale value bytes at r
groups_read zero scale value bytes at {r} byte e =
    let h = byte_read zero scale value bytes at e in
    let f = h.fifth refl in
    last_read zero scale value bytes at h (omega arith) (omega arith)
groups_read (suc left) scale value bytes at {r} byte e =
    let h = byte_read (suc left) scale value bytes at e in
    let b = get_or bytes at 0 in
    cases_bool (ltb b 128)
    (λ s.
    let l = ltb-true b 128 s in
    last_read (suc left) scale value bytes at h (omega (arith, one-le-pow left 128 (omega arith), pow-suc 128 left)) l)
    (λ s.
    let l = ltb-false b 128 s in
    let m = groups_read left (scale * 128) (value + b % 128 * scale) bytes (at + 1) byte (rw s at h.goes) in
    let p = m.fewest (ne_eqb (scale * 128) 1 (omega arith)) in
    let below = m.below in
    record {
      n = b % 128 + m.n * 128;
      whole = m.whole ∙ regroup value (b % 128) m.n scale;
      below = omega (arith, pow-suc 128 left);
      fewest = λ q. omega arith;
      stands = rw (groups_next (suc left) b m.n l (byte at) p) (stands_append (stands_byte bytes at h.there) m.stands);
    })

-- the other way round: the tests pass on a byte that fits
byte_goes : (left scale value : ℕ) (bytes : List ℕ) (at : ℕ) → at < length bytes → (left ≡ 0 → get_or bytes at 0 ≤ 15)
    → (eqb scale 1 ≡ false → 0 < get_or bytes at 0)
    → read_groups (suc left) scale value bytes at
    ≡ cond (ltb (get_or bytes at 0) 128) (some (record { value = value + get_or bytes at 0 * scale; next = at + 1 }))
    (read_groups left (scale * 128) (value + get_or bytes at 0 % 128 * scale) bytes (at + 1))
unfolding read_groups
byte_goes left scale value bytes at there fifth fewest =
    let b = get_or bytes at 0 in
    let t1 = lt-leb (length bytes) at there in
    let t2 : eqb left 0 && ltb 15 b ≡ false = cases_bool (eqb left 0) (λ q. rw (q, le-ltb 15 b (fifth (eqb-true left 0 q)))) (λ q. rw q) in
    let t3 : eqb b 0 && not (eqb scale 1) ≡ false = cases_bool (eqb scale 1) (λ q. rw (q, and-false)) (λ q. let p = fewest q in rw (ne_eqb b 0 (omega arith))) in
    rw (t1, t2, t3)

last_readable : (left scale value n : ℕ) (bytes : List ℕ) (at next : ℕ) → n < 128 → (left ≡ 0 → n ≤ 15) → (eqb scale 1 ≡ false → 0 < n)
    → Stands (groups (suc left) n) bytes at next
    → read_groups (suc left) scale value bytes at ≡ some (record { value = value + n * scale; next = next })
last_readable left scale value n bytes at next small fifth fewest s =
    let b = get_or bytes at 0 in
    let u = rw (groups_small left n small) at s in
    let a = byte_ahead bytes at n (drop next bytes) u.ahead in
    let q = a.1 in
    byte_goes left scale value bytes at a.0 (λ z. rw q (fifth z)) (λ z. rw q (fewest z))
    ∙ rw (lt-ltb b 128 (omega arith)) (λ i. some (record { value = value + q i * scale; next = sym u.step i }))

pub groups_readable : (left scale value n : ℕ) (bytes : List ℕ) (at next : ℕ) → n < 16 * 128 ^ left → (eqb scale 1 ≡ false → 0 < n)
    → Stands (groups (suc left) n) bytes at next
    → read_groups (suc left) scale value bytes at ≡ some (record { value = value + n * scale; next = next })
groups_readable zero scale value n bytes at next below fewest s =
    last_readable zero scale value n bytes at next (omega arith) (λ z. omega arith) fewest s
groups_readable (suc left) scale value n bytes at next below fewest s =
    cases_bool (ltb n 128)
    (λ t.
    let l = ltb-true n 128 t in
    last_readable (suc left) scale value n bytes at next l (λ z. absurd (omega arith)) fewest s)
    (λ t.
    let l = ltb-false n 128 t in
    let b = get_or bytes at 0 in
    let h = n % 128 + 128 in
    let u = rw (groups_large (suc left) n l) at s in
    let a = byte_ahead bytes at h (groups (suc left) (n / 128) ++ drop next bytes) u.ahead in
    let q = a.1 in
    let v = value + b % 128 * scale in
    let m = groups_readable left (scale * 128) v (n / 128) bytes (at + 1) next (omega (arith, pow-suc 128 left)) (λ z. omega arith) (record { ahead = a.2; step = omega (arith, u.step) }) in
    let e : b % 128 + n / 128 * 128 ≡ n = omega arith in
    byte_goes (suc left) scale value bytes at a.0 (λ z. absurd (omega arith)) (λ z. omega arith)
    ∙ rw (le-ltb b 128 (omega arith)) (m ∙ ap (λ (x : ℕ). some (record { value = x; next = next })) (regroup value (b % 128) (n / 128) scale ∙ ap (λ (x : ℕ). value + x * scale) e)))

-- a number below 2^32 stands at a place
pub record Number (n : ℕ) (bytes : List ℕ) (at next : ℕ) : Type 0 where
  pub below : n < 2 ^ 32
  pub stands : Stands (sheet_number n) bytes at next

pub number_read : (bytes : List ℕ) (at : ℕ) (r : Read ℕ) → Bytes bytes → read_number bytes at ≡ some r → Number r.value bytes at r.next
unfolding read_number sheet_number
number_read bytes at r byte e =
    let m = groups_read 4 1 0 bytes at byte e in
    let q : r.value ≡ m.n = omega (arith, m.whole) in
    record { below = omega (arith, m.below); stands = rw q m.stands }

pub number_readable : {n : ℕ} {bytes : List ℕ} {at next : ℕ} → Number n bytes at next → read_number bytes at ≡ some (record { value = n; next = next })
unfolding read_number sheet_number
number_readable {n} {bytes} {at} {next} h =
    groups_readable 4 1 0 n bytes at next (omega (arith, h.below)) (λ z. true-false refl z) h.stands
    ∙ ap (λ (x : ℕ). some (record { value = x; next = next })) (omega arith)

-- a number that passes a test
pub if_read : (test : ℕ → Bool) (bytes : List ℕ) (at : ℕ) (r : Read ℕ) → Bytes bytes
    → read_if test bytes at ≡ some r → (test r.value ≡ true) × Number r.value bytes at r.next
unfolding read_if
if_read test bytes at r byte e =
    then_some (read_number bytes at) _ e (λ a f g.
    let c = cond_some (test a.value) (some a) g in
    rw (← some-injective _ _ c.1) (c.0, number_read bytes at a byte f))

pub if_readable : (test : ℕ → Bool) {n : ℕ} {bytes : List ℕ} {at next : ℕ} → test n ≡ true → Number n bytes at next
    → read_if test bytes at ≡ some (record { value = n; next = next })
unfolding read_if
if_readable test {n} {bytes} {at} {next} t h = then_go _ (record { value = n; next = next }) (number_readable h) ∙ rw t

-- ---- pairs

-- the rules of two lists together
pub pairs_append : (w named : ℕ) (xs ys : List Pair) → pairs_meet w named (xs ++ ys) ≡ pairs_meet w named xs && pairs_meet w named ys
unfolding pairs_meet
pairs_append w named [] ys = refl
pairs_append w named (p ∷ xs) ys =
    let a = ltb p.number (256 ^ w) && kind_named named p.kind in
    ap (λ (b : Bool). a && b) (pairs_append w named xs ys) ∙ sym (and_assoc a (pairs_meet w named xs) (pairs_meet w named ys))

-- one pair more at the end
pub differ_more : (xs : List Pair) (p : Pair) → all_differ xs ≡ true → member linkage p xs ≡ false → all_differ (xs ++ p ∷ []) ≡ true
differ_more xs p h m = (all_differ_law (xs ++ p ∷ [])).1 (different_snoc linkage lawful xs p ((all_differ_law xs).0 h) m)

-- the rules of a list that is being read
pub record ListRules (key named : ℕ) (xs : List Pair) : Type 0 where
  pub pairs : pairs_meet (key_width key) named xs ≡ true
  pub differ : all_differ xs ≡ true
  pub first : begins_right key xs ≡ true

pub list_none : (key named : ℕ) → ListRules key named []
unfolding pairs_meet all_differ begins_right
list_none key named = record { pairs = refl; differ = refl; first = refl }

-- the first pair of a longer list
first_more : (key : ℕ) (acc : List Pair) (k n : ℕ) → begins_right key acc ≡ true → may_begin key k || not (eqb (length acc) 0) ≡ true
    → begins_right key (acc ++ pair k n ∷ []) ≡ true
unfolding begins_right pair
first_more key [] k n r f = sym (or-false (may_begin key k)) ∙ f
first_more key (x ∷ xs) k n r f = r

first_next : (key : ℕ) (acc : List Pair) (p : Pair) (ps : List Pair) → begins_right key (acc ++ p ∷ ps) ≡ true
    → may_begin key p.kind || not (eqb (length acc) 0) ≡ true
unfolding begins_right
first_next key [] p ps h = rw h
first_next key (x ∷ xs) p ps h =
    ap (λ (b : Bool). may_begin key p.kind || not b) (eqb-suc-zero (length xs)) ∙ or-true (may_begin key p.kind)

-- one pair more in a list
pub list_more : (key named : ℕ) (acc : List Pair) (k n : ℕ) → ListRules key named acc → kind_fits key named acc k ≡ true → number_fits (key_width key) acc k n ≡ true
    → ListRules key named (acc ++ pair k n ∷ [])
unfolding pair kind_fits number_fits pairs_meet
list_more key named acc k n r f g =
    let a = ltb n (256 ^ key_width key) in
    let b = kind_named named k in
    let c = member linkage (pair k n) acc in
    let d = may_begin key k || not (eqb (length acc) 0) in
    record {
      pairs = pairs_append (key_width key) named acc (pair k n ∷ []) ∙ and_both _ _ r.pairs (and_both _ _ (and_both _ _ (and_left a (not c) g) (and_left b d f)) refl);
      differ = differ_more acc (pair k n) r.differ (not-true c (and_right a (not c) g));
      first = first_more key acc k n r.first (and_right b d f);
    }

-- and its tests
pub list_next : (key named : ℕ) (acc : List Pair) (p : Pair) (ps : List Pair) → ListRules key named (acc ++ p ∷ ps)
    → (kind_fits key named acc p.kind ≡ true) × (number_fits (key_width key) acc p.kind p.number ≡ true)
unfolding pair kind_fits number_fits
list_next key named acc p ps r =
    let m = (pair_rules (key_width key) named p ps).0 (and_right (pairs_meet (key_width key) named acc) (pairs_meet (key_width key) named (p ∷ ps)) (sym (pairs_append (key_width key) named acc (p ∷ ps)) ∙ r.pairs)) in (
      and_both _ _ m.kind (first_next key acc p ps r.first),
      and_both _ _ (lt-ltb p.number (256 ^ key_width key) m.number) (ap not (differ_before acc p ps r.differ)),
    )

-- a pair's bytes
unfoldable pub pair_bytes : Pair → List ℕ
pair_bytes p = sheet_number p.kind ++ sheet_number p.number

-- what reading a pair gives
pub record PairRead (key named : ℕ) (acc : List Pair) (bytes : List ℕ) (at : ℕ) (r : Read (List Pair)) : Type 0 where
  pub item : Pair
  pub longer : r.value ≡ acc ++ item ∷ []
  pub rules : ListRules key named (acc ++ item ∷ [])
  pub stands : Stands (pair_bytes item) bytes at r.next

pub pair_read_law : (key named : ℕ) (acc : List Pair) (bytes : List ℕ) (at : ℕ) (r : Read (List Pair)) → Bytes bytes
    → ListRules key named acc → read_pair key named acc bytes at ≡ some r → PairRead key named acc bytes at r
unfolding read_pair pair_bytes pair
pair_read_law key named acc bytes at r byte h e =
    then_some (read_if (kind_fits key named acc) bytes at) _ e (λ a ae f.
    then_some (read_if (number_fits (key_width key) acc a.value) bytes a.next) _ f (λ b be g.
    let kr = if_read (kind_fits key named acc) bytes at a byte ae in
    let nr = if_read (number_fits (key_width key) acc a.value) bytes a.next b byte be in
    let q = some-injective _ _ g in
    record {
      item = pair a.value b.value;
      longer = ap (λ (x : Read (List Pair)). x.value) (sym q);
      rules = list_more key named acc a.value b.value h kr.0 nr.0;
      stands = stands_to (ap (λ (x : Read (List Pair)). x.next) q) (stands_append kr.1.stands nr.1.stands);
    }))

-- what reading a list gives
pub record PairsRead (count key named : ℕ) (acc : List Pair) (bytes : List ℕ) (at : ℕ) (r : Read (List Pair)) : Type 0 where
  pub items : List Pair
  pub many : length items ≡ count
  pub longer : r.value ≡ acc ++ items
  pub rules : ListRules key named (acc ++ items)
  pub stands : Stands (sheet_pairs items) bytes at r.next

pub pairs_read : (count key named : ℕ) (acc : List Pair) (bytes : List ℕ) (at : ℕ) (r : Read (List Pair)) → Bytes bytes
    → ListRules key named acc → read_pairs count key named acc bytes at ≡ some r → PairsRead count key named acc bytes at r
unfolding read_pairs pair_bytes sheet_pairs
pairs_read zero key named acc bytes at r byte h e =
    let q = some-injective _ _ e in
    record {
      items = [];
      many = refl;
      longer = ap (λ (x : Read (List Pair)). x.value) (sym q) ∙ sym (append-nil acc);
      rules = rw append-nil h;
      stands = stands_to (ap (λ (x : Read (List Pair)). x.next) q) (stands_none bytes at);
    }
pairs_read (suc count) key named acc bytes at r byte h e =
    then_some (read_pair key named acc bytes at) _ e (λ a ae f.
    let m = pair_read_law key named acc bytes at a byte h ae in
    let p = m.item in
    let t = pairs_read count key named (acc ++ p ∷ []) bytes a.next r byte m.rules (rw m.longer at f) in
    let s = append_snoc acc p t.items in
    record {
      items = p ∷ t.items;
      many = ap suc t.many;
      longer = t.longer ∙ s;
      rules = rw s at t.rules;
      stands = stands_append m.stands t.stands;
    })

-- a pair that goes on a list is read
pub pair_readable : (key named : ℕ) (acc : List Pair) (p : Pair) (ps : List Pair) (bytes : List ℕ) (at next : ℕ)
    → ListRules key named (acc ++ p ∷ ps) → Stands (pair_bytes p) bytes at next
    → read_pair key named acc bytes at ≡ some (record { value = acc ++ p ∷ []; next = next })
unfolding read_pair pair_bytes pair
pair_readable key named acc p ps bytes at next h s =
    let t = list_next key named acc p ps h in
    let m = (pair_rules (key_width key) named p ps).0 (and_right (pairs_meet (key_width key) named acc) (pairs_meet (key_width key) named (p ∷ ps)) (sym (pairs_append (key_width key) named acc (p ∷ ps)) ∙ h.pairs)) in
    let small = kind_small named p.kind m.kind in
    let place = at + length (sheet_number p.kind) in
    let k : Number p.kind bytes at place = record { below = omega arith; stands = stands_first (sheet_number p.kind) (sheet_number p.number) s } in
    let n : Number p.number bytes place next = record { below = within_width (key_width key) p.number (width_most key) m.number; stands = stands_second (sheet_number p.kind) (sheet_number p.number) s } in
    then_go _ (record { value = p.kind; next = place }) (if_readable (kind_fits key named acc) t.0 k)
    ∙ then_go _ (record { value = p.number; next = next }) (if_readable (number_fits (key_width key) acc p.kind) t.1 n)

-- and so are all that do
pub pairs_readable : (key named : ℕ) (acc ps : List Pair) (bytes : List ℕ) (at next : ℕ)
    → ListRules key named (acc ++ ps) → Stands (sheet_pairs ps) bytes at next
    → read_pairs (length ps) key named acc bytes at ≡ some (record { value = acc ++ ps; next = next })
unfolding read_pairs pair_bytes sheet_pairs
pairs_readable key named acc [] bytes at next h s =
    let q : at ≡ next = omega (arith, s.step) in
    λ i. some (record { value = sym (append-nil acc) i; next = q i })
pairs_readable key named acc (p ∷ ps) bytes at next h s =
    let place = at + length (pair_bytes p) in
    let g = append_snoc acc p ps in
    then_go _ (record { value = acc ++ p ∷ []; next = place }) (pair_readable key named acc p ps bytes at place h (stands_first (pair_bytes p) (sheet_pairs ps) s))
    ∙ pairs_readable key named (acc ++ p ∷ []) ps bytes place next (rw g h) (stands_second (pair_bytes p) (sheet_pairs ps) s)
    ∙ ap (λ (xs : List Pair). some (record { value = xs; next = next })) g

-- ---- sets

-- a set's bytes in front of its pairs
unfoldable pub head_bytes : Head → List ℕ
head_bytes h = sheet_number h.key ++ (sheet_number (bit h.on) ++ (sheet_number h.named ++ sheet_number h.count))

-- the rules of what stands in front of a set's pairs
pub record HeadRules (last : ℕ) (h : Head) : Type 0 where
  pub key : key_fits last h.key ≡ true
  pub named : names_meet h.key h.named ≡ true
  pub count : count_fits h.count ≡ true

-- on or off as a number, and back
bit_again : (n : ℕ) → leb n 1 ≡ true → bit (eqb n 1) ≡ n
unfolding bit
bit_again n h =
    cases_bool (eqb n 1)
    (λ s. rw s (sym (eqb-true n 1 s)))
    (λ s. let l = leb-true n 1 h in let d = eqb-false n 1 s in rw s (omega arith))

pub head_read : (last : ℕ) (bytes : List ℕ) (at : ℕ) (r : Read Head) → Bytes bytes
    → read_head last bytes at ≡ some r → HeadRules last r.value × Stands (head_bytes r.value) bytes at r.next
unfolding read_head head_bytes
head_read last bytes at r byte e =
    then_some (read_if (key_fits last) bytes at) _ e (λ a ae e1.
    then_some (read_if (λ on. leb on 1) bytes a.next) _ e1 (λ b be e2.
    then_some (read_if (names_meet a.value) bytes b.next) _ e2 (λ c ce e3.
    then_some (read_if count_fits bytes c.next) _ e3 (λ d de e4.
    let ar = if_read (key_fits last) bytes at a byte ae in
    let br = if_read (λ on. leb on 1) bytes a.next b byte be in
    let cr = if_read (names_meet a.value) bytes b.next c byte ce in
    let dr = if_read count_fits bytes c.next d byte de in
    let on = stands_by (ap sheet_number (sym (bit_again b.value br.0))) br.1.stands in
    subst (λ (x : Read Head). HeadRules last x.value × Stands (head_bytes x.value) bytes at x.next) (some-injective _ _ e4) (
      record { key = ar.0; named = cr.0; count = dr.0 },
      stands_append ar.1.stands (stands_append on (stands_append cr.1.stands dr.1.stands)),
    )))))

bit_test : (b : Bool) → eqb (bit b) 1 ≡ b
unfolding bit
bit_test true = refl
bit_test false = refl

-- a key that fits, rule by rule
pub key_rules : (last k : ℕ) → key_fits last k ≡ true → (last < k) × (is_key k ≡ true)
unfolding key_fits
key_rules last k h = (ltb-true last k (and_left (ltb last k) (is_key k) h), and_right (ltb last k) (is_key k) h)

pub key_fits_law : (last k : ℕ) → last < k → is_key k ≡ true → key_fits last k ≡ true
unfolding key_fits
key_fits_law last k a b = and_both _ _ (lt-ltb last k a) b

pub count_rules : (n : ℕ) → count_fits n ≡ true → (1 ≤ n) × (n ≤ most_ids)
unfolding count_fits
count_rules n h = (leb-true 1 n (and_left (leb 1 n) (leb n most_ids) h), leb-true n most_ids (and_right (leb 1 n) (leb n most_ids) h))

pub count_fits_law : (n : ℕ) → 1 ≤ n → n ≤ most_ids → count_fits n ≡ true
unfolding count_fits
count_fits_law n a b = and_both _ _ (le-leb 1 n a) (le-leb n most_ids b)

pub head_readable : (last : ℕ) (h : Head) (bytes : List ℕ) (at next : ℕ) → HeadRules last h → Stands (head_bytes h) bytes at next
    → read_head last bytes at ≡ some (record { value = h; next = next })
unfolding read_head head_bytes
head_readable last h bytes at next r s =
    let k = sheet_number h.key in
    let o = sheet_number (bit h.on) in
    let n = sheet_number h.named in
    let c = sheet_number h.count in
    let kr = ((key_meets_law h.key).0 (key_rules last h.key r.key).1).0 in
    let cr = count_rules h.count r.count in
    let small = bit_small h.on in
    let names = names_small h.key h.named r.named in
    let s1 = stands_second k (o ++ (n ++ c)) s in
    let s2 = stands_second o (n ++ c) s1 in
    let p1 = at + length k in
    let p2 = p1 + length o in
    let p3 = p2 + length n in
    then_go _ (record { value = h.key; next = p1 }) (if_readable (key_fits last) r.key (record { below = omega arith; stands = stands_first k (o ++ (n ++ c)) s }))
    ∙ then_go _ (record { value = bit h.on; next = p2 }) (if_readable (λ on. leb on 1) (le-leb (bit h.on) 1 (omega arith)) (record { below = omega arith; stands = stands_first o (n ++ c) s1 }))
    ∙ then_go _ (record { value = h.named; next = p3 }) (if_readable (names_meet h.key) r.named (record { below = omega arith; stands = stands_first n c s2 }))
    ∙ then_go _ (record { value = h.count; next = next }) (if_readable count_fits r.count (record { below = omega arith; stands = stands_second n c s2 }))
    ∙ ap (λ (b : Bool). some (record { value = record { key = h.key; on = b; named = h.named; count = h.count }; next = next })) (bit_test h.on)

-- a set read: its key comes after another, and its rules hold
pub record SetRead (last : ℕ) (bytes : List ℕ) (at : ℕ) (r : Read Shown) : Type 0 where
  pub after : last < r.value.key
  pub rules : ShownRules r.value
  pub stands : Stands (sheet_set r.value) bytes at r.next

-- a set's bytes are those of its head and those of its pairs
set_parts : (h : Head) (items : List Pair) → length items ≡ h.count → head_bytes h ++ sheet_pairs items ≡ sheet_set (set_of h items)
unfolding head_bytes sheet_set set_of
set_parts h items q = simp (append_assoc, q)

-- a head and its pairs make a set
set_made : (last : ℕ) (h : Head) (items : List Pair) (bytes : List ℕ) (at place next : ℕ) → HeadRules last h → Stands (head_bytes h) bytes at place
    → length items ≡ h.count → ListRules h.key h.named items → Stands (sheet_pairs items) bytes place next
    → SetRead last bytes at (record { value = set_of h items; next = next })
unfolding set_of
set_made last h items bytes at place next r s q l t =
    let k = key_rules last h.key r.key in
    let c = count_rules h.count r.count in
    record {
      after = k.0;
      rules = record {
        key = (key_meets_law h.key).0 k.1;
        set = record { short = omega arith; some = not_empty_law items (omega arith); first = l.first; differ = l.differ; pairs = l.pairs; names = r.named };
      };
      stands = stands_by (set_parts h items q) (stands_append s t);
    }

pub set_read : (last : ℕ) (bytes : List ℕ) (at : ℕ) (r : Read Shown) → Bytes bytes
    → read_set last bytes at ≡ some r → SetRead last bytes at r
unfolding read_set
set_read last bytes at r byte e =
    then_some (read_head last bytes at) _ e (λ a ae f.
    then_some (read_pairs a.value.count a.value.key a.value.named [] bytes a.next) _ f (λ b be g.
    let h = a.value in
    let hr = head_read last bytes at a byte ae in
    let pr = pairs_read h.count h.key h.named [] bytes a.next b byte (list_none h.key h.named) be in
    let m = set_made last h pr.items bytes at a.next b.next hr.0 hr.1 pr.many pr.rules pr.stands in
    subst (λ (x : Read Shown). SetRead last bytes at x) (some-injective _ _ g)
    (subst (λ (xs : List Pair). SetRead last bytes at (record { value = set_of h xs; next = b.next })) (sym pr.longer) m)))

pub set_readable : (last : ℕ) (s : Shown) (bytes : List ℕ) (at next : ℕ) → last < s.key → ShownRules s → Stands (sheet_set s) bytes at next
    → read_set last bytes at ≡ some (record { value = s; next = next })
unfolding read_set set_of
set_readable last s bytes at next after r t =
    let items = s.set.items in
    let h : Head = record { key = s.key; on = s.on; named = s.set.named; count = length items } in
    let u = stands_by (sym (set_parts h items refl)) t in
    let place = at + length (head_bytes h) in
    let some_IsFirst = some_there items r.set.some in
    let hr : HeadRules last h = record { key = key_fits_law last s.key after ((key_meets_law s.key).1 r.key); named = r.set.names; count = count_fits_law (length items) some_IsFirst r.set.short } in
    let lr : ListRules s.key s.set.named items = record { pairs = r.set.pairs; differ = r.set.differ; first = r.set.first } in
    then_go _ (record { value = h; next = place }) (head_readable last h bytes at place hr (stands_first (head_bytes h) (sheet_pairs items) u))
    ∙ then_go _ (record { value = items; next = next }) (pairs_readable s.key s.set.named [] items bytes place next lr (stands_second (head_bytes h) (sheet_pairs items) u))

-- a set's key is its entry's
after_alone : (last : ℕ) (s : Shown) → last < s.key → last < (alone s).key
unfolding alone
after_alone last s h = h

order_alone : (s : Shown) (rest : Entries) → ascends s.key rest ≡ true → ascends (alone s).key rest ≡ true
unfolding alone
order_alone s rest h = h

-- what reading sets gives
pub record SetsRead (count last : ℕ) (acc : Entries) (bytes : List ℕ) (at : ℕ) (r : Read Entries) : Type 0 where
  pub sets : List Shown
  pub many : length sets ≡ count
  pub longer : r.value ≡ acc ++ map alone sets
  pub order : ascends last (map alone sets) ≡ true
  pub entries : entries_meet (map alone sets) ≡ true
  pub stands : Stands (sheet_sets sets) bytes at r.next

pub sets_read : (count last : ℕ) (acc : Entries) (bytes : List ℕ) (at : ℕ) (r : Read Entries) → Bytes bytes
    → read_sets count last acc bytes at ≡ some r → SetsRead count last acc bytes at r
unfolding read_sets sheet_sets ascends entries_meet
sets_read zero last acc bytes at r byte e =
    let q = some-injective _ _ e in
    record {
      sets = [];
      many = refl;
      longer = ap (λ (x : Read Entries). x.value) (sym q) ∙ sym (append-nil acc);
      order = refl;
      entries = refl;
      stands = stands_to (ap (λ (x : Read Entries). x.next) q) (stands_none bytes at);
    }
sets_read (suc count) last acc bytes at r byte e =
    then_some (read_set last bytes at) _ e (λ a ae f.
    let s = a.value in
    let m = set_read last bytes at a byte ae in
    let t = sets_read count s.key (acc ++ alone s ∷ []) bytes a.next r byte f in
    record {
      sets = s ∷ t.sets;
      many = ap suc t.many;
      longer = t.longer ∙ append_snoc acc (alone s) (map alone t.sets);
      order = and_both _ _ (lt-ltb last (alone s).key (after_alone last s m.after)) (order_alone s (map alone t.sets) t.order);
      entries = and_both _ _ ((shown_rules s).1 m.rules) t.entries;
      stands = stands_append m.stands t.stands;
    })

pub sets_readable : (last : ℕ) (acc : Entries) (ss : List Shown) (bytes : List ℕ) (at next : ℕ) → ascends last (map alone ss) ≡ true
    → entries_meet (map alone ss) ≡ true → Stands (sheet_sets ss) bytes at next
    → read_sets (length ss) last acc bytes at ≡ some (record { value = acc ++ map alone ss; next = next })
unfolding read_sets sheet_sets ascends entries_meet alone
sets_readable last acc [] bytes at next o r s =
    let q : at ≡ next = omega (arith, s.step) in
    λ i. some (record { value = sym (append-nil acc) i; next = q i })
sets_readable last acc (x ∷ ss) bytes at next o r s =
    let place = at + length (sheet_set x) in
    let all = map alone ss in
    let after = ltb-true last x.key (and_left (ltb last x.key) (ascends x.key all) o) in
    let rules = (shown_rules x).0 (and_left (entry_meets (alone x)) (entries_meet all) r) in
    then_go _ (record { value = x; next = place }) (set_readable last x bytes at place after rules (stands_first (sheet_set x) (sheet_sets ss) s))
    ∙ sets_readable x.key (acc ++ alone x ∷ []) ss bytes place next (and_right (ltb last x.key) (ascends x.key all) o) (and_right (entry_meets (alone x)) (entries_meet all) r) (stands_second (sheet_set x) (sheet_sets ss) s)
    ∙ ap (λ (xs : Entries). some (record { value = xs; next = next })) (append_snoc acc (alone x) all)

-- ---- the sheet

-- what is parsed is a table that meets the rules, shows all it holds, and writes these bytes
pub record Parsed (bytes : List ℕ) (u : Content) : Type 0 where
  pub rules : meets u ≡ true
  pub writes : sheet u ≡ bytes
  pub alone : just_shown u ≡ u

-- a count and its sets make a sheet
sheet_made : (ss : List Shown) (bytes : List ℕ) (place next : ℕ) → length ss ≤ most_keys → Stands (sheet_number (length ss)) bytes 0 place
    → ascends 0 (map alone ss) ≡ true → entries_meet (map alone ss) ≡ true → Stands (sheet_sets ss) bytes place next → next ≡ length bytes
    → Parsed bytes (just_sets (map alone ss))
unfolding sheet just_shown
sheet_made ss bytes place next few n o r s q =
    let all = sheet_number (length ss) ++ sheet_sets ss in
    let back = shown_alone ss in
    record {
      rules = alone_meet ss ((table_rules (map alone ss)).1 (record { short = omega (arith, length-map ss alone); ascend = o; entries = r }));
      writes =
          ap (λ (us : List Shown). sheet_number (length us) ++ sheet_sets us) back
          ∙ sym (append-nil all)
          ∙ ap (λ (x : List ℕ). all ++ x) (sym (drop-length bytes) ∙ ap (λ (k : ℕ). drop k bytes) (sym q))
          ∙ sym (stands_append n s).ahead;
      alone = ap (λ (us : List Shown). just_sets (map alone us)) back;
    }

pub sheet_read : (bytes : List ℕ) (u : Content) → Bytes bytes → parse_sheet bytes ≡ some u → Parsed bytes u
unfolding parse_sheet
sheet_read bytes u byte e =
    then_some (read_if (λ n. leb n most_keys) bytes 0) _ e (λ a ae f.
    then_some (read_sets a.value 0 [] bytes a.next) _ f (λ b be g.
    let ar = if_read (λ n. leb n most_keys) bytes 0 a byte ae in
    let br = sets_read a.value 0 [] bytes a.next b byte be in
    let c = cond_some (eqb b.next (length bytes)) (some (just_sets b.value)) g in
    let few = leb-true a.value most_keys ar.0 in
    let n = stands_by (ap sheet_number (sym br.many)) ar.1.stands in
    let q = ap just_sets (sym br.longer) ∙ some-injective _ _ c.1 in
    subst (λ (x : Content). Parsed bytes x) q
    (sheet_made br.sets bytes a.next b.next (omega (arith, br.many)) n br.order br.entries br.stands
    (eqb-true b.next (length bytes) c.0))))

-- what a table writes is parsed, whatever else is known of its bytes
pub sheet_readable : (t : Content) → meets t ≡ true → parse_sheet (sheet t) ≡ some (just_shown t)
unfolding parse_sheet sheet just_shown
sheet_readable t h =
    let r = (table_rules t.sets).0 (sets_meet_law t h) in
    let ss = shown_sets t.sets in
    let l = shown_few t.sets in
    let n = sheet_number (length ss) in
    let bytes = n ++ sheet_sets ss in
    let place = 0 + length n in
    let whole : Stands bytes bytes 0 (length bytes) =
    record { ahead = sym (ap (λ (x : List ℕ). bytes ++ x) (drop-length bytes) ∙ append-nil bytes); step = omega arith } in
    then_go _ (record { value = length ss; next = place }) (if_readable (λ k. leb k most_keys) (le-leb (length ss) most_keys (omega (arith, r.short))) (record { below = omega (arith, r.short); stands = stands_first n (sheet_sets ss) whole }))
    ∙ then_go _ (record { value = map alone ss; next = length bytes }) (sets_readable 0 [] ss bytes place (length bytes) (shown_ascends 0 t.sets r.ascend) (shown_entries t.sets r.entries) (stands_second n (sheet_sets ss) whole))
    ∙ rw (eq-eqb (length bytes) (length bytes) refl)

-- the parser gives nothing exactly where no table writes the bytes
pub parse_none : (bytes : List ℕ) → Bytes bytes
    → (parse_sheet bytes ≡ none) ↔ ((t : Content) → meets t ≡ true → sheet t ≡ bytes → ⊥)
parse_none bytes byte = (
  λ e t h q. none-ne-some (just_shown t) (sym e ∙ ap parse_sheet (sym q) ∙ sheet_readable t h),
  λ never. cases-option (parse_sheet bytes) (λ e. e) (λ u e. let r = sheet_read bytes u byte e in absurd (never u r.rules r.writes)),
)

-- what loading answers and leaves, by the parser
unfoldable pub parsed_outcome : Option Content → Outcome
parsed_outcome none = NotASheet
parsed_outcome (some t) = Done

unfoldable pub parsed_left : Option Content → Content
parsed_left none = nothing
parsed_left (some t) = t

-- loading answers this
pub parse_loads : (bytes : List ℕ) → Bytes bytes → Load bytes (parsed_outcome (parse_sheet bytes)) (parsed_left (parse_sheet bytes))
unfolding parsed_outcome parsed_left
parse_loads bytes byte =
    cases-option (parse_sheet bytes)
    (λ e. not_a_sheet ((parse_none bytes byte).0 e) (rw e) (rw e))
    (λ u e. let r = sheet_read bytes u byte e in accepted u r.rules r.writes (rw e) (rw e (sym r.alone)))

-- ---- the loops, a turn at a time

-- byte i of a number
pub groups_turn : (i scale value : ℕ) (bytes : List ℕ) (at : ℕ) → i < 5
    → read_groups (5 - i) scale value bytes at
    ≡ cond (leb (length bytes) at) none
    (cond (eqb i 4 && ltb 15 (get_or bytes at 0)) none
    (cond (eqb (get_or bytes at 0) 0 && not (eqb scale 1)) none
    (cond (ltb (get_or bytes at 0) 128) (some (record { value = value + get_or bytes at 0 * scale; next = at + 1 }))
    (read_groups (5 - (i + 1)) (scale * 128) (value + get_or bytes at 0 % 128 * scale) bytes (at + 1)))))
unfolding read_groups
groups_turn i scale value bytes at h =
    let e : 5 - i ≡ suc (5 - (i + 1)) = omega arith in
    let q : eqb (5 - (i + 1)) 0 ≡ eqb i 4 =
    cases_bool (eqb i 4)
    (λ s. let z = eqb-true i 4 s in eq-eqb (5 - (i + 1)) 0 (omega arith) ∙ sym s)
    (λ s. let z = eqb-false i 4 s in ne_eqb (5 - (i + 1)) 0 (omega arith) ∙ sym s) in
    ap (λ (n : ℕ). read_groups n scale value bytes at) e ∙ rw q

-- in 32 bits: before byte i the scale is 128^i and the value is below it
pub record Room (i scale value : ℕ) : Type 0 where
  pub power : scale ≡ 128 ^ i
  pub below : value < scale

pub room_start : Room 0 1 0
room_start = record { power = refl; below = omega arith }

-- a group b adds less than its scale times 128
group_below : (b scale value : ℕ) → b < 128 → value < scale → value + b * scale < scale * 128
group_below b scale value h l = omega (arith, mul-le-mul_right {m = b} {n = 127} scale (omega arith))

pub room_more : (i scale value b : ℕ) → Room i scale value → Room (i + 1) (scale * 128) (value + b % 128 * scale)
room_more i scale value b r =
    record {
      power = ap (λ (x : ℕ). x * 128) r.power ∙ sym (pow-suc 128 i) ∙ ap (λ (x : ℕ). 128 ^ x) (sym (add-one i));
      below = group_below (b % 128) scale value (omega arith) r.below;
    }

pub room_scale : (i scale value : ℕ) → i < 5 → Room i scale value → scale ≤ 2 ^ 28
room_scale i scale value h r = omega (arith, r.power, pow-le-pow_right {n = 128} (omega arith) {i = i} {j = 4} (omega arith))

pub room_value : (i scale value b : ℕ) → i < 5 → Room i scale value → b < 128 → (i ≡ 4 → b ≤ 15) → value + b * scale < 2 ^ 32
room_value i scale value b h r small fifth =
    cases_bool (eqb i 4)
    (λ s.
    let f = fifth (eqb-true i 4 s) in
    omega (arith, room_scale i scale value h r, r.below, mul-le-mul_right {m = b} {n = 15} scale f))
    (λ s.
    let z = eqb-false i 4 s in
    let p = pow-le-pow_right {n = 128} (omega arith) {i = i} {j = 3} (omega arith) in
    omega (arith, r.power, group_below b scale value small r.below))

-- pair number i of this many, and the end
pub pairs_turn : (count i key named : ℕ) (acc : List Pair) (bytes : List ℕ) (at : ℕ) → i < count
    → read_pairs (count - i) key named acc bytes at
    ≡ and_then (read_pair key named acc bytes at) (λ longer next. read_pairs (count - (i + 1)) key named longer bytes next)
unfolding read_pairs
pairs_turn count i key named acc bytes at h =
    let e : count - i ≡ suc (count - (i + 1)) = omega arith in
    ap (λ (n : ℕ). read_pairs n key named acc bytes at) e

pub pairs_end : (count i key named : ℕ) (acc : List Pair) (bytes : List ℕ) (at : ℕ) → count ≤ i
    → read_pairs (count - i) key named acc bytes at ≡ some (record { value = acc; next = at })
unfolding read_pairs
pairs_end count i key named acc bytes at h =
    let e : count - i ≡ 0 = omega arith in
    ap (λ (n : ℕ). read_pairs n key named acc bytes at) e

-- set number i of this many, and the end
pub sets_turn : (count i last : ℕ) (acc : Entries) (bytes : List ℕ) (at : ℕ) → i < count
    → read_sets (count - i) last acc bytes at
    ≡ and_then (read_set last bytes at) (λ s next. read_sets (count - (i + 1)) s.key (acc ++ alone s ∷ []) bytes next)
unfolding read_sets
sets_turn count i last acc bytes at h =
    let e : count - i ≡ suc (count - (i + 1)) = omega arith in
    ap (λ (n : ℕ). read_sets n last acc bytes at) e

pub sets_end : (count i last : ℕ) (acc : Entries) (bytes : List ℕ) (at : ℕ) → count ≤ i
    → read_sets (count - i) last acc bytes at ≡ some (record { value = acc; next = at })
unfolding read_sets
sets_end count i last acc bytes at h =
    let e : count - i ≡ 0 = omega arith in
    ap (λ (n : ℕ). read_sets n last acc bytes at) e
