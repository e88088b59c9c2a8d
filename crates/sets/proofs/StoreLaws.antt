-- The stored form of sets that a block changes: an entry exchanged at its place, a new one opened, all open lists dropped.
use Prim.Native.Nat.{ℕ, suc, ◌+◌, ◌<◌, ◌≤◌}
use native.Mathlib.Omega.{arith}
use mathlib.Core.Path.{◌≡◌, refl, ap, ap₂, ◌∙◌}
use mathlib.Core.Bool.{Bool, false}
use mathlib.Core.List.{List, [], ◌∷◌, ◌++◌, map}
use mathlib.Core.Option.{Option, none}
use lib.ListN.{length, get_or, set, take, drop, replicate, length-append, length-drop, length-map, length-set}
use lib.Seq.{map-set_same, length-take-le}
use borrow.Author.Tests.{lt-ltb}
use Rattle.rules.specs.Arrays.{padded, opened}
use Rattle.rules.specs.Family.{entry_with, closed, drop_open}
use Rattle.rules.specs.Collecting.{linkage, IdSet, Held, Entries, most_keys}
use Rattle.rules.proofs.Arrays.{padded_replicate}
use Rattle.rules.proofs.Entries.{column_set, column_opened}
use Rattle.lists.specs.declared.IdList.{IdList}
use Rattle.lists.specs.Stored.{empty_list, store_maybe}
use Rattle.sets.specs.declared.Sets.{Sets}
use Rattle.sets.specs.Stored.{key_in, on_in, confirmed_in, shown_in, draft_in, store_sets, opened_sets, with_lists, with_draft}
use Rattle.sets.proofs.Entries.{no_entry}

-- ---- an entry exchanged

-- sets with a state, a number, a set and a list stored at a place
unfoldable pub set_at : Sets → ℕ → Bool → ℕ → IdList → IdList → Sets
set_at t i on confirmed shown draft =
    with_lists t (set t.on i on) (set t.confirmed i confirmed) (set t.shown i shown) (set t.draft i draft)

pub store_set : (c : Entries) (i : ℕ) (e : Held) → i < length c → e.key ≡ (get_or c i no_entry).key
    → store_sets (set c i e) ≡ set_at (store_sets c) i e.state e.stamp (store_maybe e.shown) (store_maybe e.draft)
unfolding store_sets set_at on_in confirmed_in shown_in draft_in
store_set c i e h p =
    let n = length-set c i e in
    let ks = ap (padded most_keys 0) (map-set_same key_in c i e no_entry p) in
    let os = column_set on_in most_keys false c i e h in
    let ns = column_set confirmed_in most_keys 0 c i e h in
    let ss = column_set shown_in most_keys empty_list c i e h in
    let ds = column_set draft_in most_keys empty_list c i e h in
    λ j. record { count = n j; keys = ks j; on = os j; confirmed = ns j; shown = ss j; draft = ds j }

-- ---- a new one opened

pub opened_store : (c : Entries) (e : Held) (j : ℕ) → e.shown ≡ none → e.stamp ≡ 0 → j ≤ length c → length c < most_keys
    → store_sets (take j c ++ e ∷ drop j c) ≡ opened_sets (store_sets c) j e.key e.state (store_maybe e.draft)
unfolding store_sets opened_sets on_in confirmed_in shown_in draft_in store_maybe
opened_store c e j z p m h =
    let n : length (take j c ++ e ∷ drop j c) ≡ length c + 1 =
    length-append (take j c) (e ∷ drop j c) ∙ ap₂ ◌+◌ (length-take-le j c m) (ap suc (length-drop j c)) ∙ omega arith in
    let ks = column_opened key_in most_keys 0 c j e m h in
    let os = column_opened on_in most_keys false c j e m h in
    let ns = column_opened confirmed_in most_keys 0 c j e m h ∙ ap (λ (k : ℕ). opened j k (padded most_keys 0 (map confirmed_in c))) p in
    let ss = column_opened shown_in most_keys empty_list c j e m h ∙ ap (λ (o : Option IdSet). opened j (store_maybe o) (padded most_keys empty_list (map shown_in c))) z in
    let ds = column_opened draft_in most_keys empty_list c j e m h in
    rw (lt-ltb j most_keys (omega arith), lt-ltb (length c) most_keys h)
    (λ i. record { count = n i; keys = ks i; on = os i; confirmed = ns i; shown = ss i; draft = ds i })

-- ---- all open lists dropped

closed_draft : (c : Entries) → map draft_in (map (closed linkage) c) ≡ replicate (length c) empty_list
unfolding closed entry_with draft_in store_maybe
closed_draft [] = refl
closed_draft (e ∷ c) = ap (λ (r : List IdList). empty_list ∷ r) (closed_draft c)

same_column : {B : Type 0} (v : Held → B) → ((e : Held) → v (closed linkage e) ≡ v e) → (c : Entries) → map v (map (closed linkage) c) ≡ map v c
same_column v s [] = refl
same_column v s (e ∷ c) = ap₂ ◌∷◌ (s e) (same_column v s c)

keys_same : (e : Held) → key_in (closed linkage e) ≡ key_in e
unfolding closed entry_with
keys_same e = refl

on_same : (e : Held) → on_in (closed linkage e) ≡ on_in e
unfolding closed entry_with on_in
on_same e = refl

confirmed_same : (e : Held) → confirmed_in (closed linkage e) ≡ confirmed_in e
unfolding closed entry_with confirmed_in
confirmed_same e = refl

shown_same : (e : Held) → shown_in (closed linkage e) ≡ shown_in e
unfolding closed entry_with shown_in
shown_same e = refl

pub store_closed : (c : Entries) → length c ≤ most_keys
    → store_sets (drop_open linkage c) ≡ with_draft (store_sets c) (replicate most_keys empty_list)
unfolding store_sets drop_open
store_closed c h =
    let n = length-map c (closed linkage) in
    let ks = ap (padded most_keys 0) (same_column key_in keys_same c) in
    let os = ap (padded most_keys false) (same_column on_in on_same c) in
    let ps = ap (padded most_keys 0) (same_column confirmed_in confirmed_same c) in
    let ss = ap (padded most_keys empty_list) (same_column shown_in shown_same c) in
    let ds = ap (padded most_keys empty_list) (closed_draft c) ∙ padded_replicate most_keys (length c) empty_list h in
    λ i. record { count = n i; keys = ks i; on = os i; confirmed = ps i; shown = ss i; draft = ds i }
