-- Sets as the code reads them. In order: a set, its head and its list; one turn of the loop over a sheet's sets.
use Prim.Native.Nat.{ℕ, ◌+◌, ◌-◌, ◌<◌, ◌≤◌}
use native.Mathlib.Omega.{arith}
use mathlib.Core.Path.{◌≡◌, refl, sym, ap, ◌∙◌}
use mathlib.Core.Bool.{true, false}
use mathlib.Core.List.{List, [], ◌∷◌, ◌++◌, map}
use mathlib.Core.Option.{Option, some, some-injective}
use lib.ListN.{length, set, length-append, length-map}
use lib.Dec.{leb}
use Rattle.std.specs.Prelude as lang
use Rattle.rules.specs.Arrays.{padded}
use Rattle.rules.specs.Collecting.{Entries, Shown, names_meet, most_keys, most_ids}
use Rattle.layout.specs.Sheet.{alone}
use Rattle.rules.proofs.Basics.{map-append}
use Rattle.layout.specs.Parse.{Read, and_then, read_if, key_fits, count_fits, read_pairs, Head, read_head, set_of, read_set, read_sets}
use Rattle.layout.proofs.ParseLaws.{then_some, then_go, then_none, count_rules, sets_turn, sets_end}
use Rattle.rules.proofs.Arrays.{padded_default, set_column}
use Rattle.lists.specs.declared.IdList.{IdList}
use Rattle.lists.specs.Stored.{empty_list, store_maybe}
use Rattle.sets.specs.declared.Sets.{Sets}
use Rattle.sets.specs.Stored.{store_sets, key_in, on_in, confirmed_in, shown_in, draft_in}
use Rattle.totals.specs.declared.Totals.{Totals}
use Rattle.totals.specs.Totals.{no_totals}
use Rattle.totals.specs.Kept.{with_set, kept_up}
use Rattle.totals.proofs.Laws.{kept_more}
use Rattle.sheet.specs.declared.Reader.{Reader}
use Rattle.sheet.specs.declared.SetHead.{SetHead}
use Rattle.sheet.specs.declared.ReadSet.{ReadSet}
use Rattle.sheet.specs.Reading.{Reads, head_of, list_of, set_as, sets_as}
use Rattle.sheet.proofs.Steps.{IsRead, was_read, not_read, reads_none, reads_some, then_not, then_reads, reads_made}
use Rattle.sheet.proofs.Tests.{if_passes}

-- ---- a set

-- a head of the code's as the parser's
abbrev head_in : SetHead → Head
head_in h = record { key = h.key; on = h.on; named = h.named; count = h.count }

abbrev after_head : List ℕ → SetHead → ℕ → Option (Read Shown)
after_head bytes h place =
    and_then (read_pairs h.count h.key h.named [] bytes place) (λ items next. some (record { value = set_of (head_in h) items; next = next }))

module _ {old new end : Reader} {given : lang.Option ReadSet} (last : ℕ) where
  pub set_no_head : Reads head_of (read_head last old.bytes.now old.at) old lang.None new → given ≡ lang.None
      → Reads set_as (read_set last old.bytes.now old.at) old given end
  unfolding read_set
  set_no_head e h = then_not _ e h

  pub set_head : {head : SetHead} → Reads head_of (read_head last old.bytes.now old.at) old (lang.Some head) new
      → Reads set_as (after_head new.bytes.now head new.at) new given end → Reads set_as (read_set last old.bytes.now old.at) old given end
  unfolding read_set head_of
  set_head e h = then_reads after_head e h

-- a count that passes is at most 128
head_count : (last : ℕ) (bytes : List ℕ) (at : ℕ) {r : Read Head} → read_head last bytes at ≡ some r → count_fits r.value.count ≡ true
unfolding read_head
head_count last bytes at e =
    then_some (read_if (key_fits last) bytes at) _ e (λ k ke e1.
    then_some (read_if (λ on. leb on 1) bytes k.next) _ e1 (λ o oe e2.
    then_some (read_if (names_meet k.value) bytes o.next) _ e2 (λ n ne e3.
    then_some (read_if count_fits bytes n.next) _ e3 (λ c ce e4.
    rw (← some-injective _ _ e4) (if_passes count_fits bytes n.next ce)))))

pub set_count : (last : ℕ) {old new : Reader} {head : SetHead} → Reads head_of (read_head last old.bytes.now old.at) old (lang.Some head) new
    → head.count ≤ most_ids
unfolding head_of
set_count last {old} {head = head} e =
    let m = was_read e in
    let c = (count_rules m.r.value.count (head_count last old.bytes.now old.at m.there)).1 in
    omega (arith, ap (λ (h : SetHead). h.count) m.value_is)

pub set_made : {old new : Reader} (head : SetHead) {list : IdList}
    → Reads (list_of head.named) (read_pairs head.count head.key head.named [] old.bytes.now old.at) old (lang.Some list) new
    → Reads set_as (after_head old.bytes.now head old.at) old (lang.Some (record { key = head.key; on = head.on; list = list })) new
unfolding set_as list_of set_of
set_made head e = reads_made (set_of (head_in head)) (λ (l : IdList). record { key = head.key; on = head.on; list = l }) (λ items. refl) e

-- ---- one turn of the loop over a sheet's sets

-- i of them are stored, and what is still to be read is what was to be read
pub record Filled (count : ℕ) (old now : Reader) (sets : Sets) (totals : Totals) (last i : ℕ) : Type 0 where
  pub read : Entries
  pub many : length read ≡ i
  pub sets_are : sets ≡ store_sets read
  pub totals_are : totals ≡ kept_up read
  pub same : now.bytes ≡ old.bytes
  pub rest : read_sets (count - i) last read now.bytes.now now.at ≡ read_sets count 0 [] old.bytes.now old.at

module _ (count : ℕ) (old : Reader) where
  pub sets_start : (s : Sets) → s ≡ store_sets [] → (n : Totals) → n ≡ no_totals → Filled count old old s n 0 0
  unfolding kept_up
  sets_start s e n ne =
      let z : count - 0 ≡ count = omega arith in
      record { read = []; many = refl; sets_are = e; totals_are = ne; same = refl; rest = ap (λ (n : ℕ). read_sets n 0 [] old.bytes.now old.at) z }

  module _ (now : Reader) (sets : Sets) (totals : Totals) (last i : ℕ) (g : Filled count old now sets totals last i) where
    pub sets_wrong : {given : lang.Option (Sets × Totals)} {new end : Reader} → i < count → Reads set_as (read_set last now.bytes.now now.at) now lang.None new
        → given ≡ lang.None → Reads sets_as (read_sets count 0 [] old.bytes.now old.at) old given end
    sets_wrong h r e = reads_none (sym g.rest ∙ sets_turn count i last g.read now.bytes.now now.at h ∙ then_none _ (not_read r)) e

    -- with one set more
    abbrev more : ReadSet → Sets
    more r =
        record {
          count = i + 1;
          keys = set sets.keys i r.key;
          on = set sets.on i r.on;
          confirmed = sets.confirmed;
          shown = set sets.shown i r.list;
          draft = sets.draft;
        }

    more_stored : (r : ReadSet) (s : Shown) → i < most_keys → r ≡ set_as s → more r ≡ store_sets (g.read ++ alone s ∷ [])
    unfolding on_in confirmed_in shown_in draft_in store_maybe alone set_as store_sets
    more_stored r s h e =
        let many : i + 1 ≡ length (g.read ++ alone s ∷ []) = omega (arith, length-append g.read (alone s ∷ []), g.many) in
        let keys = set_column key_in most_keys i 0 g.read (alone s) (ap (λ (x : Sets). x.keys) g.sets_are) (ap (λ (x : ReadSet). x.key) e) g.many h in
        let on = set_column on_in most_keys i false g.read (alone s) (ap (λ (x : Sets). x.on) g.sets_are) (ap (λ (x : ReadSet). x.on) e) g.many h in
        let shown = set_column shown_in most_keys i empty_list g.read (alone s) (ap (λ (x : Sets). x.shown) g.sets_are) (ap (λ (x : ReadSet). x.list) e) g.many h in
        let confirmed =
        ap (λ (x : Sets). x.confirmed) g.sets_are
        ∙ sym (padded_default most_keys 0 (map confirmed_in g.read) (omega (arith, length-map g.read confirmed_in, g.many)))
        ∙ ap (padded most_keys 0) (sym (map-append confirmed_in g.read (alone s ∷ []))) in
        let draft =
        ap (λ (x : Sets). x.draft) g.sets_are
        ∙ sym (padded_default most_keys empty_list (map draft_in g.read) (omega (arith, length-map g.read draft_in, g.many)))
        ∙ ap (padded most_keys empty_list) (sym (map-append draft_in g.read (alone s ∷ []))) in
        λ j. record { count = many j; keys = keys j; on = on j; confirmed = confirmed j; shown = shown j; draft = draft j }

    sets_more : (r : ReadSet) {new : Reader} → i < count → count ≤ most_keys → IsRead set_as (read_set last now.bytes.now now.at) now r new
        → (n : Totals) → n ≡ with_set totals r.list.len r.on → Filled count old new (more r) n r.key (i + 1)
    unfolding set_as alone store_maybe
    sets_more r {new} h few m n ne =
        let s = m.r.value in
        record {
          read = g.read ++ alone s ∷ [];
          many = omega (arith, length-append g.read (alone s ∷ []), g.many);
          sets_are = more_stored r s (omega arith) m.value_is;
          totals_are = ne ∙ (λ j. with_set (g.totals_are j) (m.value_is j).list.len (m.value_is j).on) ∙ sym (kept_more g.read (alone s));
          same = (λ j. (m.stands j).bytes) ∙ g.same;
          rest =
              (λ j. read_sets (count - (i + 1)) (m.value_is j).key (g.read ++ alone s ∷ []) (m.stands j).bytes.now (m.stands j).at)
              ∙ sym (then_go _ _ m.there) ∙ sym (sets_turn count i last g.read now.bytes.now now.at h) ∙ g.rest;
        }

    pub sets_next : (r : ReadSet) {new : Reader} → i < count → count ≤ most_keys → Reads set_as (read_set last now.bytes.now now.at) now (lang.Some r) new
        → (n : Totals) → n ≡ with_set totals r.list.len r.on → Filled count old new (more r) n r.key (i + 1)
    sets_next r h few e n ne = sets_more r h few (was_read e) n ne

    pub sets_made : count ≤ i → Reads sets_as (read_sets count 0 [] old.bytes.now old.at) old (lang.Some (sets, totals)) now
    unfolding sets_as
    sets_made b =
        reads_some (record { value = g.read; next = now.at })
        (sym g.rest ∙ sets_end count i last g.read now.bytes.now now.at b)
        (λ j. lang.Some (g.sets_are j, g.totals_are j))
        (λ j. record { bytes = g.same j; at = now.at })
