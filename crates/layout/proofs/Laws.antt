-- The laws of the stored sheet, in this order: a number's bytes; the rules of a shown set, one by one; pairs, sets and the
-- whole sheet, each of which can be told from what follows it; what a table shows; the sheet's length; loading.
-- The main ones: number_prefix, number_most, sheet_shows, sheet_prefix, shown_meet, shown_same, shown-twice, sheet_shown,
-- sheet_most, load_single, load_meets, load_written, load_again.
use Prim.Native.Nat.{ℕ, zero, suc, ◌+◌, ◌*◌, ◌/◌, ◌%◌, ◌^◌, ◌≤◌, ◌<◌}
use mathlib.Core.Path.{◌≡◌, refl, sym, ◌∙◌, ap, ap₂}
use mathlib.Core.Bool.{Bool, true, false}
use mathlib.Core.List.{List, [], ◌∷◌, ◌++◌, map, append_assoc}
use mathlib.Core.Logic.{◌↔◌}
use mathlib.Core.Option.{Option, none, some}
use native.Mathlib.Nat.{pow-suc, div-lt_iff_lt-mul}
use native.Mathlib.Omega.{arith}
use lib.ListN.{length, length-append, length-map}
use lib.Dec.{ltb}
use borrow.Author.Tests.{ltb-true, lt-ltb, le-ltb}
use Rattle.rules.specs.declared.Outcome.{Outcome}
use Rattle.rules.specs.declared.Outcome.TheVariants.{Done}
use Rattle.rules.specs.Block.{bit}
use Rattle.rules.specs.Field.{Pair}
use Rattle.rules.specs.Collecting.{IdSet, Entries, Content, just_sets, Shown, is_key, key_width, pairs_meet, if_there, number_meets, entry_meets, ascends, entries_meet, sets_meet, meets, showing, shown_sets}
use Rattle.layout.specs.Sheet.{groups, sheet_number, sheet_pairs, sheet_set, sheet_sets, sheet, alone, just_shown, Load, accepted, not_a_sheet}
use Rattle.rules.proofs.Basics.{same_head, same_tail, cases_bool, and_left, and_right, and_both, bit_small}
use Rattle.rules.proofs.TableRules.{kind_small, names_small, width_most, within_width, pair_rules, SetRules, set_rules, entry_rules, KeyMeets, key_meets_law, table_rules, NumbersWithin, content_meets, nothing_meets, sets_meet_law, shown_few}

-- ---- numbers

-- one group less
pub power_less : (k n : ℕ) → n < 128 ^ suc k → n / 128 < 128 ^ k
power_less k n h = (div-lt_iff_lt-mul {k = 128} {x = n} (omega arith)).1 (rw pow-suc at h)

-- what groups give, by the test
pub groups_small : (m n : ℕ) → n < 128 → groups (suc m) n ≡ n ∷ []
unfolding groups
groups_small m n h = rw (lt-ltb n 128)

pub groups_large : (m n : ℕ) → 128 ≤ n → groups (suc m) n ≡ (n % 128 + 128) ∷ groups m (n / 128)
unfolding groups
groups_large m n h = rw (le-ltb n 128)

-- with enough groups, a number can be told from what follows it
pub groups_prefix : (m a b : ℕ) (x y : List ℕ) → a < 128 ^ m → b < 128 ^ m → groups m a ++ x ≡ groups m b ++ y → (a ≡ b) × (x ≡ y)
unfolding groups
groups_prefix zero a b x y p q e = (omega arith, e)
groups_prefix (suc m) a b x y p q e =
    cases_bool (ltb a 128)
    (λ s. cases_bool (ltb b 128)
    (λ t. let d = (rw (s, t) at e) in (same_head d, same_tail d))
    (λ t. let d = same_head (rw (s, t) at e) in let l = ltb-true a 128 s in absurd (omega arith)))
    (λ s. cases_bool (ltb b 128)
    (λ t. let d = same_head (rw (s, t) at e) in let l = ltb-true b 128 t in absurd (omega arith))
    (λ t.
    let d = rw (s, t) at e in
    let h = same_head d in
    let r = groups_prefix m (a / 128) (b / 128) x y (power_less m a p) (power_less m b q) (same_tail d) in
    (omega arith, r.1)))

-- a number below 128^(k+1) has at most k+1 bytes
pub groups_most : (m k n : ℕ) → n < 128 ^ suc k → length (groups m n) ≤ suc k
unfolding groups
groups_most zero k n h = omega arith
groups_most (suc m) zero n h = rw (groups_small m n (omega arith)) (omega arith)
groups_most (suc m) (suc k) n h =
    cases_bool (ltb n 128)
    (λ s. rw s (omega arith))
    (λ s. let r = groups_most m k (n / 128) (power_less (suc k) n h) in rw s (omega arith))

-- a number below 2^35, thus also below 2^32, can be told from what follows it
pub number_prefix : (a b : ℕ) (x y : List ℕ) → a < 2 ^ 35 → b < 2 ^ 35 → sheet_number a ++ x ≡ sheet_number b ++ y → (a ≡ b) × (x ≡ y)
unfolding sheet_number
number_prefix a b x y p q e = groups_prefix 5 a b x y p q e

-- 1 byte below 128, at most 2 below 128^2, 3 below 65,536, 5 below 2^32
pub number_most : (k n : ℕ) → n < 128 ^ suc k → length (sheet_number n) ≤ suc k
unfolding sheet_number
number_most k n h = groups_most 5 k n h

-- ---- what the table rules say of a shown set

-- the rules of an entry, its open list aside
pub record ShownRules (s : Shown) : Type 0 where
  pub key : KeyMeets s.key
  pub set : SetRules s.key s.set

pub shown_rules : (s : Shown) → (entry_meets (alone s) ≡ true) ↔ ShownRules s
unfolding if_there alone
shown_rules s = (
  λ h. let r = (entry_rules (alone s)).0 h in record { key = (key_meets_law s.key).0 r.key; set = (set_rules s.key s.set).0 r.shown },
  λ r. (entry_rules (alone s)).1 (record { number = unfold number_meets in refl; key = (key_meets_law s.key).1 r.key; shown = (set_rules s.key s.set).1 r.set; draft = refl }),
)

-- ---- pairs

-- a pair is its kind and its number
pub pair_path : (p q : Pair) → p.kind ≡ q.kind → p.number ≡ q.number → p ≡ q
pair_path p q a b = λ i. record { kind = a i; number = b i }

-- as many pairs as known can be told from what follows them
pub pairs_prefix :
    (v w m n : ℕ) (ps qs : List Pair) (x y : List ℕ) → v ≤ 4 → w ≤ 4 → pairs_meet v m ps ≡ true → pairs_meet w n qs ≡ true
    → length ps ≡ length qs → sheet_pairs ps ++ x ≡ sheet_pairs qs ++ y → (ps ≡ qs) × (x ≡ y)
unfolding sheet_pairs
pairs_prefix v w m n [] [] x y fv fw g h l e = (refl, e)
pairs_prefix v w m n [] (q ∷ qs) x y fv fw g h l e = absurd (omega arith)
pairs_prefix v w m n (p ∷ ps) [] x y fv fw g h l e = absurd (omega arith)
pairs_prefix v w m n (p ∷ ps) (q ∷ qs) x y fv fw g h l e =
    let a = (pair_rules v m p ps).0 g in
    let b = (pair_rules w n q qs).0 h in
    let ak = kind_small m p.kind a.kind in
    let bk = kind_small n q.kind b.kind in
    let an = within_width v p.number fv a.number in
    let bn = within_width w q.number fw b.number in
    let k = number_prefix p.kind q.kind (sheet_number p.number ++ (sheet_pairs ps ++ x)) (sheet_number q.number ++ (sheet_pairs qs ++ y)) (omega arith) (omega arith) (simp append_assoc at e) in
    let i = number_prefix p.number q.number (sheet_pairs ps ++ x) (sheet_pairs qs ++ y) (omega arith) (omega arith) k.1 in
    let r = pairs_prefix v w m n ps qs x y fv fw a.rest b.rest (omega arith) i.1 in
    (ap₂ ◌∷◌ (pair_path p q k.0 i.0) r.0, r.1)

-- ---- sets

bit_one : (b c : Bool) → bit b ≡ bit c → b ≡ c
unfolding bit
bit_one true true e = refl
bit_one true false e = absurd (omega arith)
bit_one false true e = absurd (omega arith)
bit_one false false e = refl

-- a set's bytes in front of others, number by number
pub set_bytes : (s : Shown) (x : List ℕ) →
    sheet_set s ++ x
    ≡ sheet_number s.key ++ (sheet_number (bit s.on) ++ (sheet_number s.set.named ++ (sheet_number (length s.set.items) ++ (sheet_pairs s.set.items ++ x))))
unfolding sheet_set
set_bytes s x = simp append_assoc

-- a set can be told from what follows it
pub set_prefix : (s u : Shown) (x y : List ℕ) → ShownRules s → ShownRules u → sheet_set s ++ x ≡ sheet_set u ++ y → (s ≡ u) × (x ≡ y)
set_prefix s u x y g h e =
    let sn = names_small s.key s.set.named g.set.names in
    let un = names_small u.key u.set.named h.set.names in
    let sb = bit_small s.on in
    let ub = bit_small u.on in
    let sp = sheet_pairs s.set.items ++ x in
    let up = sheet_pairs u.set.items ++ y in
    let sl = sheet_number (length s.set.items) ++ sp in
    let ul = sheet_number (length u.set.items) ++ up in
    let so = sheet_number s.set.named ++ sl in
    let uo = sheet_number u.set.named ++ ul in
    let f = sym (set_bytes s x) ∙ e ∙ set_bytes u y in
    let k = number_prefix s.key u.key (sheet_number (bit s.on) ++ so) (sheet_number (bit u.on) ++ uo) (omega arith) (omega arith) f in
    let o = number_prefix (bit s.on) (bit u.on) so uo (omega arith) (omega arith) k.1 in
    let n = number_prefix s.set.named u.set.named sl ul (omega arith) (omega arith) o.1 in
    let c = number_prefix (length s.set.items) (length u.set.items) sp up (omega arith) (omega arith) n.1 in
    let r = pairs_prefix (key_width s.key) (key_width u.key) s.set.named u.set.named s.set.items u.set.items x y (width_most s.key) (width_most u.key) g.set.pairs h.set.pairs c.0 c.1 in
    let b = bit_one s.on u.on o.0 in
    (λ i. record { key = k.0 i; on = b i; set = record { items = r.0 i; named = n.0 i } }, r.1)

-- as many sets as known can be told from what follows them
pub sets_prefix :
    (ss us : List Shown) (x y : List ℕ) → entries_meet (map alone ss) ≡ true → entries_meet (map alone us) ≡ true
    → length ss ≡ length us → sheet_sets ss ++ x ≡ sheet_sets us ++ y → (ss ≡ us) × (x ≡ y)
unfolding sheet_sets entries_meet
sets_prefix [] [] x y g h l e = (refl, e)
sets_prefix [] (u ∷ us) x y g h l e = absurd (omega arith)
sets_prefix (s ∷ ss) [] x y g h l e = absurd (omega arith)
sets_prefix (s ∷ ss) (u ∷ us) x y g h l e =
    let gs = (shown_rules s).0 (and_left (entry_meets (alone s)) (entries_meet (map alone ss)) g) in
    let hs = (shown_rules u).0 (and_left (entry_meets (alone u)) (entries_meet (map alone us)) h) in
    let gr = and_right (entry_meets (alone s)) (entries_meet (map alone ss)) g in
    let hr = and_right (entry_meets (alone u)) (entries_meet (map alone us)) h in
    let a = set_prefix s u (sheet_sets ss ++ x) (sheet_sets us ++ y) gs hs (simp append_assoc at e) in
    let r = sets_prefix ss us x y gr hr (omega arith) a.1 in
    (ap₂ ◌∷◌ a.0 r.0, r.1)

-- ---- what a table shows

-- the shown sets alone show the same
pub shown_alone : (ss : List Shown) → shown_sets (map alone ss) ≡ ss
unfolding shown_sets showing alone
shown_alone [] = refl
shown_alone (s ∷ ss) = ap (λ (r : List Shown). s ∷ r) (shown_alone ss)

-- ascending from a key is ascending from a smaller one
pub ascends_less : (a b : ℕ) (t : Entries) → a ≤ b → ascends b t ≡ true → ascends a t ≡ true
unfolding ascends
ascends_less a b [] h e = refl
ascends_less a b (x ∷ xs) h e =
    let l = ltb-true b x.key (and_left (ltb b x.key) (ascends x.key xs) e) in
    and_both _ _ (lt-ltb a x.key (omega arith)) (and_right (ltb b x.key) (ascends x.key xs) e)

-- the shown sets ascend as their entries do, and meet the rules as these do
pub shown_ascends : (last : ℕ) (t : Entries) → ascends last t ≡ true → ascends last (map alone (shown_sets t)) ≡ true
unfolding shown_sets showing alone ascends
shown_ascends last [] h = refl
shown_ascends last (e ∷ es) h =
    let a = ltb last e.key in
    let b = ascends e.key es in
    go e.shown (and_left a b h) (shown_ascends e.key es (and_right a b h))
  where
    go : (o : Option IdSet) → ltb last e.key ≡ true → ascends e.key (map alone (shown_sets es)) ≡ true
        → ascends last (map alone (showing e o (shown_sets es))) ≡ true
    go none l r = let q = ltb-true last e.key l in ascends_less last e.key (map alone (shown_sets es)) (omega arith) r
    go (some s) l r = and_both _ _ l r

pub shown_entries : (t : Entries) → entries_meet t ≡ true → entries_meet (map alone (shown_sets t)) ≡ true
unfolding shown_sets showing alone entries_meet if_there number_meets
shown_entries [] h = refl
shown_entries (e ∷ es) h =
    let r = (entry_rules e).0 (and_left (entry_meets e) (entries_meet es) h) in
    go e.shown r.key r.shown (shown_entries es (and_right (entry_meets e) (entries_meet es) h))
  where
    go : (o : Option IdSet) → is_key e.key ≡ true → if_there e.key o ≡ true
        → entries_meet (map alone (shown_sets es)) ≡ true → entries_meet (map alone (showing e o (shown_sets es))) ≡ true
    go none k s r = r
    go (some l) k s r = and_both _ _ ((entry_rules _).1 (record { number = refl; key = k; shown = s; draft = refl })) r

-- sets alone have no numbers, so that they meet the rules in a table of no blocks
pub alone_meet : (ss : List Shown) → sets_meet (map alone ss) ≡ true → meets (just_sets (map alone ss)) ≡ true
alone_meet ss h = (content_meets (just_sets (map alone ss))).1 (record { sets = h; within = zeros ss; most = omega arith })
  where
    zeros : (us : List Shown) → NumbersWithin 0 (map alone us)
    zeros [] = tt
    zeros (s ∷ us) = (unfold alone in omega arith, zeros us)

-- the shown sets of a table, alone, meet the rules
pub shown_meet : (t : Content) → meets t ≡ true → meets (just_shown t) ≡ true
unfolding just_shown
shown_meet t h =
    let r = (table_rules t.sets).0 (sets_meet_law t h) in
    alone_meet (shown_sets t.sets)
    ((table_rules (map alone (shown_sets t.sets))).1
    (record {
      short = omega (arith, r.short, shown_few t.sets, length-map (shown_sets t.sets) alone);
      ascend = shown_ascends 0 t.sets r.ascend;
      entries = shown_entries t.sets r.entries;
    }))

-- they show the same
pub shown_same : (t : Content) → shown_sets (just_shown t).sets ≡ shown_sets t.sets
unfolding just_shown
shown_same t = shown_alone (shown_sets t.sets)

-- ---- the sheet

-- the shown sets alone have the same sheet
pub sheet_shown : (t : Content) → sheet (just_shown t) ≡ sheet t
unfolding sheet
sheet_shown t = ap (λ (ss : List Shown). sheet_number (length ss) ++ sheet_sets ss) (shown_same t)

-- what shows the same has the same sheet
pub same_sheet : (t u : Content) → shown_sets t.sets ≡ shown_sets u.sets → sheet t ≡ sheet u
unfolding sheet
same_sheet t u e = ap (λ (ss : List Shown). sheet_number (length ss) ++ sheet_sets ss) e

-- a sheet can be told from what follows it, and tells what is shown
pub sheet_prefix :
    (t u : Content) (x y : List ℕ) → meets t ≡ true → meets u ≡ true → sheet t ++ x ≡ sheet u ++ y
    → (shown_sets t.sets ≡ shown_sets u.sets) × (x ≡ y)
unfolding sheet
sheet_prefix t u x y g h e =
    let a = (table_rules t.sets).0 (sets_meet_law t g) in
    let b = (table_rules u.sets).0 (sets_meet_law u h) in
    let tf = shown_few t.sets in
    let uf = shown_few u.sets in
    let c = number_prefix (length (shown_sets t.sets)) (length (shown_sets u.sets)) (sheet_sets (shown_sets t.sets) ++ x) (sheet_sets (shown_sets u.sets) ++ y) (omega arith) (omega arith) (simp append_assoc at e) in
    sets_prefix (shown_sets t.sets) (shown_sets u.sets) x y (shown_entries t.sets a.entries) (shown_entries u.sets b.entries) c.0 c.1

-- two tables have equal sheets exactly when they show the same
pub sheet_shows : (t u : Content) → meets t ≡ true → meets u ≡ true → (sheet t ≡ sheet u) ↔ (shown_sets t.sets ≡ shown_sets u.sets)
sheet_shows t u g h = (λ e. (sheet_prefix t u [] [] g h (ap (λ (b : List ℕ). b ++ []) e)).0, λ e. same_sheet t u e)

-- ---- its length

-- a kind takes 1 byte and a number at most 5
pub pairs_most : (w named : ℕ) (ps : List Pair) → w ≤ 4 → pairs_meet w named ps ≡ true → length (sheet_pairs ps) ≤ 6 * length ps
unfolding sheet_pairs
pairs_most w named [] f h = omega arith
pairs_most w named (p ∷ ps) f h =
    let r = (pair_rules w named p ps).0 h in
    let s = kind_small named p.kind r.kind in
    let n = within_width w p.number f r.number in
    let a = number_most 0 p.kind (omega arith) in
    let b = number_most 4 p.number (omega arith) in
    let c = pairs_most w named ps f r.rest in
    simp length-append (omega arith)

-- 3 for the key, 1 for on or off, 1 for the named kinds, 2 for the count, 6 for each of 128 pairs
pub set_most : (s : Shown) → ShownRules s → length (sheet_set s) ≤ 775
unfolding sheet_set
set_most s r =
    let few = r.set.short in
    let n = names_small s.key s.set.named r.set.names in
    let k = number_most 2 s.key (omega arith) in
    let sb = bit_small s.on in
    let o = number_most 0 (bit s.on) (omega arith) in
    let m = number_most 0 s.set.named (omega arith) in
    let c = number_most 1 (length s.set.items) (omega arith) in
    let p = pairs_most (key_width s.key) s.set.named s.set.items (width_most s.key) r.set.pairs in
    simp length-append (omega arith)

pub sets_most : (ss : List Shown) → entries_meet (map alone ss) ≡ true → length (sheet_sets ss) ≤ 775 * length ss
unfolding sheet_sets entries_meet
sets_most [] h = omega arith
sets_most (s ∷ ss) h =
    let a = set_most s ((shown_rules s).0 (and_left (entry_meets (alone s)) (entries_meet (map alone ss)) h)) in
    let b = sets_most ss (and_right (entry_meets (alone s)) (entries_meet (map alone ss)) h) in
    simp length-append (omega arith)

-- 1 for the count, and 32 sets
pub sheet_most : (t : Content) → meets t ≡ true → length (sheet t) ≤ 24801
unfolding sheet
sheet_most t h =
    let r = (table_rules t.sets).0 (sets_meet_law t h) in
    let f = shown_few t.sets in
    let c = number_most 0 (length (shown_sets t.sets)) (omega arith) in
    let s = sets_most (shown_sets t.sets) (shown_entries t.sets r.entries) in
    simp length-append (omega arith)

-- ---- loading

-- the sets that a sheet gives depend on its bytes alone
pub shown_by_bytes : (bytes : List ℕ) (t u : Content) → meets t ≡ true → meets u ≡ true → sheet t ≡ bytes → sheet u ≡ bytes → just_shown t ≡ just_shown u
unfolding just_shown
shown_by_bytes bytes t u g h d e = ap (λ (ss : List Shown). just_sets (map alone ss)) ((sheet_shows t u g h).0 (d ∙ sym e))

-- a single answer
pub load_single : {bytes : List ℕ} {o p : Outcome} {t u : Content} → Load bytes o t → Load bytes p u → (o ≡ p) × (t ≡ u)
load_single {bytes} (accepted a g d oe te) (accepted b h e pe ue) =
    (oe ∙ sym pe, te ∙ shown_by_bytes bytes a b g h d e ∙ sym ue)
load_single (accepted a g d oe te) (not_a_sheet never pe ue) = absurd (never a g d)
load_single (not_a_sheet never oe te) (accepted b h e pe ue) = absurd (never b h e)
load_single (not_a_sheet never oe te) (not_a_sheet nor pe ue) = (oe ∙ sym pe, te ∙ sym ue)

-- what loading leaves meets the table rules
pub load_meets : {bytes : List ℕ} {o : Outcome} {t : Content} → Load bytes o t → meets t ≡ true
load_meets (accepted a g d oe te) = rw te (shown_meet a g)
load_meets (not_a_sheet never oe te) = rw te nothing_meets

-- loading what was written gives the shown sets
pub load_written : {o : Outcome} {u : Content} (t : Content) → meets t ≡ true → Load (sheet t) o u → (o ≡ Done) × (u ≡ just_shown t)
load_written t h l = load_single l (accepted t h refl refl refl)

-- what is loaded, written again, gives the same bytes
pub load_again : {bytes : List ℕ} {u : Content} → Load bytes Done u → sheet u ≡ bytes
load_again (accepted a g d oe ue) = ap sheet ue ∙ sheet_shown a ∙ d
load_again (not_a_sheet never oe ue) = let z : ◌≡◌ {A = ℕ} 0 1 = cc in absurd (omega arith)
