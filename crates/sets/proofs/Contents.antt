-- One stored form stores one content. In order: a list; entries; a table (`store_injective`).
use Prim.Native.Nat.{ℕ}
use native.Mathlib.Omega.{arith}
use mathlib.Core.Path.{◌≡◌, refl, sym, ap, ap₂, ◌∙◌}
use mathlib.Core.Bool.{true, false}
use mathlib.Core.List.{[], ◌∷◌, map}
use mathlib.Core.Option.{Option, none, some}
use lib.ListN.{length, length-map}
use Rattle.rules.specs.Collecting.{IdSet, Held, Entries, if_there, entry_meets, entries_meet, sets_meet, most_keys}
use Rattle.rules.proofs.Basics.{and_left, and_right, same_head, same_tail}
use Rattle.rules.proofs.Arrays.{padded_same}
use Rattle.rules.proofs.TableRules.{set_rules, entry_rules, table_rules}
use Rattle.lists.specs.declared.IdList.{IdList}
use Rattle.lists.specs.Stored.{empty_list, store_list, store_maybe, pairs_in}
use Rattle.lists.proofs.StoredLaws.{pairs_in_store, not_none}
use Rattle.sets.specs.declared.Sets.{Sets}
use Rattle.sets.specs.Stored.{key_in, on_in, confirmed_in, shown_in, draft_in, store_sets}

-- ---- a list

list_same : (l m : IdSet) → store_list l ≡ store_list m → l ≡ m
unfolding store_list
list_same l m e =
    let ps = sym (pairs_in_store l) ∙ ap (λ (x : IdList). pairs_in x.kinds x.numbers x.len) e ∙ pairs_in_store m in
    let ns = ap (λ (x : IdList). x.named) e in
    λ i. record { items = ps i; named = ns i }

maybe_same : (k j : ℕ) (o p : Option IdSet) → if_there k o ≡ true → if_there j p ≡ true → store_maybe o ≡ store_maybe p → o ≡ p
unfolding store_maybe store_list empty_list if_there
maybe_same k j none none f g e = refl
maybe_same k j none (some m) f g e = absurd (not_none m.items ((set_rules j m).0 g).some (sym (ap (λ (x : IdList). x.len) e)))
maybe_same k j (some l) none f g e = absurd (not_none l.items ((set_rules k l).0 f).some (ap (λ (x : IdList). x.len) e))
maybe_same k j (some l) (some m) f g e = ap (λ (x : IdSet). some x) (list_same l m e)

-- ---- entries

entry_same : (x y : Held) → entry_meets x ≡ true → entry_meets y ≡ true
    → key_in x ≡ key_in y → on_in x ≡ on_in y → confirmed_in x ≡ confirmed_in y → shown_in x ≡ shown_in y → draft_in x ≡ draft_in y → x ≡ y
unfolding on_in confirmed_in shown_in draft_in
entry_same x y f g k o p s d =
    let a = (entry_rules x).0 f in
    let b = (entry_rules y).0 g in
    let ss = maybe_same x.key y.key x.shown y.shown a.shown b.shown s in
    let ds = maybe_same x.key y.key x.draft y.draft a.draft b.draft d in
    λ i. record { key = k i; state = o i; shown = ss i; draft = ds i; stamp = p i }

entries_same : (c d : Entries) → entries_meet c ≡ true → entries_meet d ≡ true → length c ≡ length d
    → map key_in c ≡ map key_in d → map on_in c ≡ map on_in d → map confirmed_in c ≡ map confirmed_in d → map shown_in c ≡ map shown_in d → map draft_in c ≡ map draft_in d → c ≡ d
unfolding entries_meet
entries_same [] [] f g l k o p s e = refl
entries_same [] (y ∷ d) f g l k o p s e = absurd (omega arith)
entries_same (x ∷ c) [] f g l k o p s e = absurd (omega arith)
entries_same (x ∷ c) (y ∷ d) f g l k o p s e =
    ap₂ ◌∷◌
    (entry_same x y (and_left (entry_meets x) (entries_meet c) f) (and_left (entry_meets y) (entries_meet d) g) (same_head k) (same_head o) (same_head p) (same_head s) (same_head e))
    (entries_same c d (and_right (entry_meets x) (entries_meet c) f) (and_right (entry_meets y) (entries_meet d) g) (omega arith) (same_tail k) (same_tail o) (same_tail p) (same_tail s) (same_tail e))

-- ---- a table

pub store_injective : (c d : Entries) → sets_meet c ≡ true → sets_meet d ≡ true → store_sets c ≡ store_sets d → c ≡ d
unfolding store_sets
store_injective c d f g e =
    let l : length c ≡ length d = ap (λ (t : Sets). t.count) e in
    entries_same c d ((table_rules c).0 f).entries ((table_rules d).0 g).entries l
    (padded_same most_keys 0 (map key_in c) (map key_in d) (length-map c key_in ∙ l ∙ sym (length-map d key_in)) (ap (λ (t : Sets). t.keys) e))
    (padded_same most_keys false (map on_in c) (map on_in d) (length-map c on_in ∙ l ∙ sym (length-map d on_in)) (ap (λ (t : Sets). t.on) e))
    (padded_same most_keys 0 (map confirmed_in c) (map confirmed_in d) (length-map c confirmed_in ∙ l ∙ sym (length-map d confirmed_in)) (ap (λ (t : Sets). t.confirmed) e))
    (padded_same most_keys empty_list (map shown_in c) (map shown_in d) (length-map c shown_in ∙ l ∙ sym (length-map d shown_in)) (ap (λ (t : Sets). t.shown) e))
    (padded_same most_keys empty_list (map draft_in c) (map draft_in d) (length-map c draft_in ∙ l ∙ sym (length-map d draft_in)) (ap (λ (t : Sets). t.draft) e))
