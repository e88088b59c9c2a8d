-- The table rules (document 01, Collecting) taken apart and put together again. In this order: the tests of linkage are lawful;
-- what the rules bound, kinds, names and widths; names of two lists together; pairs that differ; then each rule in its parts, of
-- a pair, a set, an entry, a table and its count, as the tests say them and as what they mean; how many sets a table shows, and what holds of each.
use Prim.Native.Nat.{ℕ, ◌/◌, ◌%◌, ◌^◌, ◌≤◌, ◌<◌, max}
use native.Mathlib.Nat.{pow-le-pow_right}
use native.Mathlib.Omega.{arith}
use mathlib.Core.Path.{◌≡◌, refl, sym, ap}
use mathlib.Core.Logic.{◌↔◌}
use mathlib.Core.Bool.{Bool, true, false, not, ◌&&◌, ◌||◌}
use mathlib.Core.List.{List, [], ◌∷◌, ◌++◌, map}
use mathlib.Core.Option.{Option, none, some}
use lib.ListN.{length}
use lib.Dec.{leb, ltb, eqb}
use borrow.Author.Tests.{ltb-true, ltb-false, leb-true, eqb-true, eqb-false, lt-ltb, le-leb, eq-eqb, ne_eqb}
use Rattle.rules.specs.Field.{Pair, first_kind, width, dab, rds, drm}
use Rattle.rules.specs.Family.{member, held_meets}
use Rattle.rules.specs.Collecting.{same_pair, join_names, linkage, IdSet, Held, Entries, Content, nothing, Shown, is_key, linkage_rules, key_width, all_differ, not_empty, oe_of, first_of, may_begin, begins_right, kind_named, pairs_meet, names_meet, set_meets, if_there, entry_meets, ascends, entries_meet, number_meets, sets_meet, numbers_within, meets, showing, shown_sets, Confirmed, confirming, confirmed_sets, most_keys, most_ids, most_blocks}
use Rattle.rules.proofs.Basics.{cases_bool, cases-option, and_left, and_right, and_both, and_three, and_four, and_six, or_cases, true-false, not-true, true_not, cond_both, eqb_self, ltb_self, ltb_trans, ltb_or, Every}
use Rattle.rules.proofs.FamilyLaws.{Lawful, Different}
use Rattle.rules.proofs.FamilyRules.{items_differ_law, items_before, Means, HeldMeets, TableMeets, table_means}

-- ---- the tests of linkage

pub pair_is : (p q : Pair) → same_pair p q ≡ true → p ≡ q
unfolding same_pair
pair_is p q h =
    let k = eqb-true p.kind q.kind (and_left (eqb p.kind q.kind) (eqb p.number q.number) h) in
    let n = eqb-true p.number q.number (and_right (eqb p.kind q.kind) (eqb p.number q.number) h) in
    λ i. record { kind = k i; number = n i }

pub pair_self : (p : Pair) → same_pair p p ≡ true
unfolding same_pair
pair_self p = and_both (eqb p.kind p.kind) (eqb p.number p.number) (eqb_self p.kind) (eqb_self p.number)

pub lawful : Lawful linkage
lawful =
    record {
      same_is = eqb-true;
      same_self = eqb_self;
      before_self = ltb_self;
      before_trans = ltb_trans;
      before_or = ltb_or;
      item_is = pair_is;
      item_self = pair_self;
    }

-- ---- what the rules bound

-- the kinds that there are
pub kind_cases : {C : Type 0} (named k : ℕ) → kind_named named k ≡ true → (k ≡ 0 → C) → (k ≡ 1 → named % 2 ≡ 1 → C) → (k ≡ 3 → named / 2 ≡ 1 → C) → C
unfolding kind_named
kind_cases named k h f g e =
    let r : Bool = eqb k rds && eqb (named % 2) 1 in
    let d : Bool = eqb k drm && eqb (named / 2) 1 in
    or_cases (eqb k dab || r) d h
    (λ x.
    or_cases (eqb k dab) r x
    (λ y. f (eqb-true k dab y))
    (λ y. g (eqb-true k rds (and_left (eqb k rds) (eqb (named % 2) 1) y)) (eqb-true (named % 2) 1 (and_right (eqb k rds) (eqb (named % 2) 1) y))))
    (λ y. e (eqb-true k drm (and_left (eqb k drm) (eqb (named / 2) 1) y)) (eqb-true (named / 2) 1 (and_right (eqb k drm) (eqb (named / 2) 1) y)))

pub kind_small : (named k : ℕ) → kind_named named k ≡ true → k < 4
kind_small named k h = kind_cases named k h (λ e. omega arith) (λ e g. omega arith) (λ e g. omega arith)

-- a DAB service is always among the named
pub dab_named : (named : ℕ) → kind_named named 0 ≡ true
unfolding kind_named
dab_named named = refl

-- the names that a key allows
pub names_small : (k named : ℕ) → names_meet k named ≡ true → named < 4
unfolding names_meet
names_small k named =
    cond_both (λ (b : Bool). b ≡ true → named < 4) (eqb (k / 16384 % 2) 1) (eqb named 0) (ltb named 4)
    (λ h. omega (arith, eqb-true named 0 h)) (λ h. ltb-true named 4 h)

pub names_none : (k named : ℕ) → names_meet k named ≡ true → k / 16384 % 2 ≡ 1 → named ≡ 0
unfolding names_meet
names_none k named h e = eqb-true named 0 (rw (eq-eqb (k / 16384 % 2) 1 e) at h)

-- an identifier has at most four bytes, so that its number is below 2^32
pub width_most : (k : ℕ) → key_width k ≤ 4
unfolding key_width width
width_most k =
    cond_both (λ (w : ℕ). w ≤ 4) (eqb (k / 16384 % 2) 1) _ _ (omega arith)
    (cond_both (λ (w : ℕ). w ≤ 4) (eqb (k / 4096 % 2) 1) _ _ (omega arith) (omega arith))

pub within_width : (w n : ℕ) → w ≤ 4 → n < 256 ^ w → n < 2 ^ 32
within_width w n h l = omega (arith, pow-le-pow_right {n = 256} (omega arith) {i = w} {j = 4} h)

-- ---- names of two lists together

pub join_mod : (a b : ℕ) → join_names a b % 2 ≡ max (a % 2) (b % 2)
unfolding join_names
join_mod a b = omega arith

pub join_div : (a b : ℕ) → join_names a b / 2 ≡ max (a / 2) (b / 2)
unfolding join_names
join_div a b = omega arith

-- names are equal if both their bits are
pub names_eq : (a b : ℕ) → a % 2 ≡ b % 2 → a / 2 ≡ b / 2 → a ≡ b
names_eq a b e f = omega arith

pub join_assoc : (a b c : ℕ) → join_names (join_names a b) c ≡ join_names a (join_names b c)
join_assoc a b c =
    names_eq (join_names (join_names a b) c) (join_names a (join_names b c))
    (simp join_mod (omega arith)) (simp join_div (omega arith))

pub join_again : (a b : ℕ) → join_names a (join_names a b) ≡ join_names a b
join_again a b =
    names_eq (join_names a (join_names a b)) (join_names a b) (simp join_mod (omega arith)) (simp join_div (omega arith))

pub join_zero : (a : ℕ) → join_names 0 a ≡ a
join_zero a = names_eq (join_names 0 a) a (simp join_mod (omega arith)) (simp join_div (omega arith))

pub join_to_zero : (a : ℕ) → join_names a 0 ≡ a
join_to_zero a = names_eq (join_names a 0) a (simp join_mod (omega arith)) (simp join_div (omega arith))

-- ---- pairs that differ

pub all_differ_law : (ps : List Pair) → (all_differ ps ≡ true) ↔ Different linkage ps
unfolding all_differ
all_differ_law ps = items_differ_law linkage ps

-- a pair in the middle is not among those before it
pub differ_before : (xs : List Pair) (p : Pair) (ps : List Pair) → all_differ (xs ++ p ∷ ps) ≡ true → member linkage p xs ≡ false
unfolding all_differ
differ_before xs p ps h = items_before linkage lawful xs p ps h

-- ---- the rule of a pair

-- the first of some pairs: its number within a width, its kind among the named; and the others
pub record PairRules (w named : ℕ) (p : Pair) (ps : List Pair) : Type 0 where
  pub number : p.number < 256 ^ w
  pub kind : kind_named named p.kind ≡ true
  pub rest : pairs_meet w named ps ≡ true

pub pair_rules : (w named : ℕ) (p : Pair) (ps : List Pair) → (pairs_meet w named (p ∷ ps) ≡ true) ↔ PairRules w named p ps
unfolding pairs_meet
pair_rules w named p ps =
    let a = and_three (ltb p.number (256 ^ w)) (kind_named named p.kind) (pairs_meet w named ps) in (
      λ h. let t = a.0 h in record { number = ltb-true p.number (256 ^ w) t.0; kind = t.1; rest = t.2 },
      λ r. a.1 (lt-ltb p.number (256 ^ w) r.number, r.kind, r.rest),
    )

abbrev pub PairMeets : ℕ → ℕ → Pair → Type 0
PairMeets w named p = (p.number < 256 ^ w) × (kind_named named p.kind ≡ true)

pub pairs_meet_law : (w named : ℕ) (ps : List Pair) → (pairs_meet w named ps ≡ true) ↔ Every (PairMeets w named) ps
pairs_meet_law w named [] = (λ h. tt, λ h. unfold pairs_meet in refl)
pairs_meet_law w named (p ∷ ps) =
    let a = pair_rules w named p ps in (
      λ h. let r = a.0 h in ((r.number, r.kind), (pairs_meet_law w named ps).0 r.rest),
      λ h. a.1 (record { number = h.0.0; kind = h.0.1; rest = (pairs_meet_law w named ps).1 h.1 }),
    )

-- ---- what a set begins with

-- it begins with something
pub some_there : (ps : List Pair) → not_empty ps ≡ true → 1 ≤ length ps
unfolding not_empty
some_there [] h = true-false h refl
some_there (p ∷ ps) h = omega arith

pub not_empty_law : (ps : List Pair) → 1 ≤ length ps → not_empty ps ≡ true
unfolding not_empty
not_empty_law [] h = absurd (omega arith)
not_empty_law (p ∷ ps) h = refl

-- the kind of a start's first identifier is one that a start of that qualifier begins with
pub first_again : (oe q : ℕ) → first_kind oe (first_kind oe q) ≡ first_kind oe q
unfolding first_kind
first_again oe q = cases_bool (eqb oe 1) (λ e. rw e) (λ e. rw e)

-- with OE 0 a DAB service: no RDS code stands first
pub begins_dab_law : (k kind : ℕ) → oe_of k ≡ 0 → may_begin k kind ≡ true → kind ≡ dab
unfolding may_begin first_of first_kind
begins_dab_law k kind z h = let e : eqb dab kind ≡ true = rw z at h in sym (eqb-true dab kind e)

-- with OE 1 any kind
pub any_begins : (k kind : ℕ) → oe_of k ≡ 1 → may_begin k kind ≡ true
unfolding may_begin first_of first_kind
any_begins k kind o = rw o (eqb_self kind)

-- a DAB service begins a set of any key
pub dab_begins : (k : ℕ) → may_begin k dab ≡ true
unfolding may_begin first_of first_kind
dab_begins k = cases_bool (eqb (oe_of k) 1) (λ e. rw e) (λ e. rw e)

-- ---- the rule of a set

pub record SetRules (k : ℕ) (l : IdSet) : Type 0 where
  pub short : length l.items ≤ most_ids
  pub some : not_empty l.items ≡ true
  pub first : begins_right k l.items ≡ true
  pub differ : all_differ l.items ≡ true
  pub pairs : pairs_meet (key_width k) l.named l.items ≡ true
  pub names : names_meet k l.named ≡ true

pub set_rules : (k : ℕ) (l : IdSet) → (set_meets k l ≡ true) ↔ SetRules k l
unfolding set_meets
set_rules k l =
    let a = and_six (leb (length l.items) most_ids) (not_empty l.items) (begins_right k l.items) (all_differ l.items)
    (pairs_meet (key_width k) l.named l.items) (names_meet k l.named) in (
      λ h. let t = a.0 h in record { short = leb-true (length l.items) most_ids t.0; some = t.1; first = t.2; differ = t.3; pairs = t.4; names = t.5 },
      λ r. a.1 (le-leb (length l.items) most_ids r.short, r.some, r.first, r.differ, r.pairs, r.names),
    )

-- what it means
pub record SetMeets (k : ℕ) (l : IdSet) : Type 0 where
  pub short : length l.items ≤ most_ids
  pub some : not_empty l.items ≡ true
  pub first : begins_right k l.items ≡ true
  pub differ : Different linkage l.items
  pub pairs : Every (PairMeets (key_width k) l.named) l.items
  pub names : names_meet k l.named ≡ true

pub set_meets_law : (k : ℕ) (l : IdSet) → (set_meets k l ≡ true) ↔ SetMeets k l
set_meets_law k l = (
  λ h. let r = (set_rules k l).0 h in
      record {
        short = r.short;
        some = r.some;
        first = r.first;
        differ = (all_differ_law l.items).0 r.differ;
        pairs = (pairs_meet_law (key_width k) l.named l.items).0 r.pairs;
        names = r.names;
      },
  λ m. (set_rules k l).1
      (record {
        short = m.short;
        some = m.some;
        first = m.first;
        differ = (all_differ_law l.items).1 m.differ;
        pairs = (pairs_meet_law (key_width k) l.named l.items).1 m.pairs;
        names = m.names;
      }),
)

-- ---- the rule of an entry

pub record EntryRules (e : Held) : Type 0 where
  pub number : number_meets e.shown e.stamp ≡ true
  pub key : is_key e.key ≡ true
  pub shown : if_there e.key e.shown ≡ true
  pub draft : if_there e.key e.draft ≡ true

pub entry_rules : (e : Held) → (entry_meets e ≡ true) ↔ EntryRules e
unfolding held_meets if_there
entry_rules e =
    let a = and_four (number_meets e.shown e.stamp) (is_key e.key) (if_there e.key e.shown) (if_there e.key e.draft) in (
      λ h. let t = a.0 h in record { number = t.0; key = t.1; shown = t.2; draft = t.3 },
      λ r. a.1 (r.number, r.key, r.shown, r.draft),
    )

-- what it is to be a key
abbrev pub KeyMeets : ℕ → Type 0
KeyMeets k = (k < 65536) × (k % 4096 ≡ 0 → ⊥)

pub key_meets_law : (k : ℕ) → (is_key k ≡ true) ↔ KeyMeets k
key_meets_law k =
    let a = ltb k 65536 in
    let b = eqb (k % 4096) 0 in (
      λ h. (ltb-true k 65536 (and_left a (not b) h), eqb-false (k % 4096) 0 (not-true b (and_right a (not b) h))),
      λ m. and_both a (not b) (lt-ltb k 65536 m.0) (true_not b (ne_eqb (k % 4096) 0 m.1)),
    )

pub key_some : (k : ℕ) → KeyMeets k → 0 < k
key_some k h = cases_bool (ltb 0 k) (ltb-true 0 k) (λ z. absurd (h.1 (omega (arith, ltb-false 0 k z))))

-- no set, and the number 0
pub no_number : number_meets none 0 ≡ true
unfolding number_meets
no_number = refl

-- what the tests of linkage mean
abbrev pub meaning : Means linkage linkage_rules
meaning =
    record {
      KeyIs = KeyMeets;
      ListIs = SetMeets;
      StampIs = λ shown stamp. number_meets shown stamp ≡ true;
      key_is = key_meets_law;
      list_is = set_meets_law;
      stamp_is = λ shown stamp. (λ h. h, λ h. h);
      unstamped_is = no_number;
      may_begin_law = λ k h. lt-ltb 0 k (key_some k h);
    }

-- an entry: its key, its lists, and its number
abbrev pub EntryMeets : Held → Type 0
EntryMeets e = HeldMeets linkage linkage_rules meaning e

-- ---- the rule of a table

pub record TableRules (t : Entries) : Type 0 where
  pub short : length t ≤ most_keys
  pub ascend : ascends 0 t ≡ true
  pub entries : entries_meet t ≡ true

pub table_rules : (t : Entries) → (sets_meet t ≡ true) ↔ TableRules t
unfolding sets_meet ascends entries_meet
table_rules t =
    let a = and_three (leb (length t) most_keys) (ascends 0 t) (entries_meet t) in (
      λ h. let r = a.0 h in record { short = leb-true (length t) most_keys r.0; ascend = r.1; entries = r.2 },
      λ r. a.1 (le-leb (length t) most_keys r.short, r.ascend, r.entries),
    )

-- what it means
abbrev pub Meets : Entries → Type 0
Meets t = TableMeets linkage linkage_rules meaning t

pub table_meets_law : (t : Entries) → (sets_meet t ≡ true) ↔ Meets t
unfolding sets_meet
table_meets_law t = table_means linkage lawful linkage_rules meaning t

pub meets_nil : sets_meet [] ≡ true
unfolding sets_meet ascends entries_meet
meets_nil = refl

-- ---- the rule of all that a table holds

-- no number is above so many blocks
abbrev pub NumbersWithin : ℕ → Entries → Type 0
NumbersWithin n t = Every (λ (e : Held). e.stamp ≤ n) t

pub numbers_within_law : (n : ℕ) (t : Entries) → (numbers_within n t ≡ true) ↔ NumbersWithin n t
unfolding numbers_within
numbers_within_law n [] = (λ h. tt, λ h. refl)
numbers_within_law n (e ∷ es) = (
  λ h. (leb-true e.stamp n (and_left (leb e.stamp n) (numbers_within n es) h), (numbers_within_law n es).0 (and_right (leb e.stamp n) (numbers_within n es) h)),
  λ m. and_both (leb e.stamp n) (numbers_within n es) (le-leb e.stamp n m.0) ((numbers_within_law n es).1 m.1),
)

-- the sets, their numbers, and the count
pub record ContentMeets (t : Content) : Type 0 where
  pub sets : sets_meet t.sets ≡ true
  pub within : NumbersWithin t.blocks t.sets
  pub most : t.blocks ≤ most_blocks

pub content_meets : (t : Content) → (meets t ≡ true) ↔ ContentMeets t
unfolding meets
content_meets t =
    let a = and_three (sets_meet t.sets) (numbers_within t.blocks t.sets) (leb t.blocks most_blocks) in (
      λ h. let r = a.0 h in record { sets = r.0; within = (numbers_within_law t.blocks t.sets).0 r.1; most = leb-true t.blocks most_blocks r.2 },
      λ m. a.1 (m.sets, (numbers_within_law t.blocks t.sets).1 m.within, le-leb t.blocks most_blocks m.most),
    )

-- a table that holds nothing meets them
pub nothing_meets : meets nothing ≡ true
nothing_meets = (content_meets nothing).1 (record { sets = meets_nil; within = tt; most = omega arith })

pub sets_meet_law : (t : Content) → meets t ≡ true → sets_meet t.sets ≡ true
sets_meet_law t m = ((content_meets t).0 m).sets

-- ---- what a table shows

-- no more sets than keys
pub shown_few : (t : Entries) → length (shown_sets t) ≤ length t
unfolding shown_sets showing
shown_few [] = omega arith
shown_few (e ∷ es) =
    let rest = shown_few es in
    cases-option e.shown (λ g. rw g (omega arith)) (λ l g. rw g (omega arith))

-- with their numbers they are the same sets
abbrev pub bare_shown : Confirmed → Shown
bare_shown c = c.shown

pub confirmed_shown : (t : Entries) → map bare_shown (confirmed_sets t) ≡ shown_sets t
unfolding shown_sets showing confirmed_sets confirming
confirmed_shown [] = refl
confirmed_shown (e ∷ es) =
    cases-option e.shown (λ g. rw g (confirmed_shown es)) (λ l g. rw g (ap (λ (ss : List Shown). record { key = e.key; on = e.state; set = l } ∷ ss) (confirmed_shown es)))

-- what holds of every set that meets its rules holds of every set that a table shows
module _ (P : Shown → Type 0) (each : (s : Shown) → set_meets s.key s.set ≡ true → P s) where
  each_showing : (e : Held) (o : Option IdSet) (rest : List Shown) → if_there e.key o ≡ true → Every P rest → Every P (showing e o rest)
  unfolding showing if_there
  each_showing e none rest m h = h
  each_showing e (some l) rest m h = (each (record { key = e.key; on = e.state; set = l }) m, h)

  each_entry : (t : Entries) → entries_meet t ≡ true → Every P (shown_sets t)
  unfolding shown_sets entries_meet
  each_entry [] m = tt
  each_entry (e ∷ es) m =
      each_showing e e.shown (shown_sets es) ((entry_rules e).0 (and_left (entry_meets e) (entries_meet es) m)).shown
      (each_entry es (and_right (entry_meets e) (entries_meet es) m))

  pub each_shown : (t : Content) → meets t ≡ true → Every P (shown_sets t.sets)
  each_shown t m = each_entry t.sets ((table_rules t.sets).0 (sets_meet_law t m)).entries
