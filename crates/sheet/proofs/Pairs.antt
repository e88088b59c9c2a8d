-- Identifiers as the code reads them. In order: the next identifier of a list; one turn of the loop over a list's identifiers.
use Prim.Native.Nat.{ℕ, ◌+◌, ◌-◌, ◌<◌, ◌≤◌}
use native.Mathlib.Omega.{arith}
use mathlib.Core.Path.{◌≡◌, refl, sym, ap, ◌∙◌}
use mathlib.Core.List.{List, [], ◌∷◌, ◌++◌}
use mathlib.Core.Option.{Option, none, some}
use lib.ListN.{length, set, length-append}
use Rattle.std.specs.Prelude as lang
use Rattle.rules.specs.Arrays.{padded}
use Rattle.rules.specs.Field.{Pair, pair, number_in, kind_in}
use Rattle.rules.specs.Collecting.{key_width, most_ids}
use Rattle.layout.specs.Parse.{Read, and_then, read_if, kind_fits, number_fits, read_pair, read_pairs}
use Rattle.layout.proofs.ParseLaws.{then_go, then_none, pairs_turn, pairs_end}
use Rattle.rules.proofs.Arrays.{set_column}
use Rattle.lists.specs.declared.IdList.{IdList}
use Rattle.lists.specs.Stored.{empty_list, store_list, pairs_in}
use Rattle.lists.proofs.StoredLaws.{pairs_in_store}
use Rattle.sheet.specs.declared.Reader.{Reader}
use Rattle.sheet.specs.Reading.{Reads, longer, list_of}
use Rattle.sheet.proofs.Steps.{IsRead, was_read, not_read, reads_none, reads_some, then_not, then_reads, reads_made}

-- ---- the next identifier

abbrev after_kind : ℕ → List Pair → List ℕ → ℕ → ℕ → Option (Read (List Pair))
after_kind key acc bytes kind place =
    and_then (read_if (number_fits (key_width key) acc kind) bytes place) (λ number next. some (record { value = acc ++ pair kind number ∷ []; next = next }))

module _ (key named : ℕ) (acc : List Pair) {old new end : Reader} {given : lang.Option (List Pair)} where
  pub pair_no_kind : Reads (λ n. n) (read_if (kind_fits key named acc) old.bytes.now old.at) old lang.None new → given ≡ lang.None
      → Reads (λ l. l) (read_pair key named acc old.bytes.now old.at) old given end
  unfolding read_pair
  pair_no_kind e h = then_not _ e h

  pub pair_kind : {kind : ℕ} → Reads (λ n. n) (read_if (kind_fits key named acc) old.bytes.now old.at) old (lang.Some kind) new
      → Reads (λ l. l) (after_kind key acc new.bytes.now kind new.at) new given end
      → Reads (λ l. l) (read_pair key named acc old.bytes.now old.at) old given end
  unfolding read_pair
  pair_kind e h = then_reads (after_kind key acc) e h

pub pair_made : (key kind : ℕ) (acc : List Pair) {old new : Reader} {number : ℕ}
    → Reads (λ n. n) (read_if (number_fits (key_width key) acc kind) old.bytes.now old.at) old (lang.Some number) new
    → Reads (λ l. l) (after_kind key acc old.bytes.now kind old.at) old (longer acc (lang.Some (kind, number))) new
unfolding longer
pair_made key kind acc e = reads_made (λ n. acc ++ pair kind n ∷ []) (λ n. acc ++ pair kind n ∷ []) (λ n. refl) e

-- ---- one turn of the loop over a list's identifiers

-- i of them make the list, and what is still to be read is what was to be read
pub record Gathered (key named count : ℕ) (old now : Reader) (list : IdList) (i : ℕ) : Type 0 where
  pub read : List Pair
  pub many : length read ≡ i
  pub list_is : list ≡ store_list (record { items = read; named = named })
  pub same : now.bytes ≡ old.bytes
  pub rest : read_pairs (count - i) key named read now.bytes.now now.at ≡ read_pairs count key named [] old.bytes.now old.at

module _ (key named count : ℕ) (old : Reader) where
  pub list_start : (l : IdList) → l ≡ empty_list → Gathered key named count old old (record l { named = named }) 0
  unfolding store_list empty_list padded
  list_start l e =
      let z : count - 0 ≡ count = omega arith in
      record {
        read = [];
        many = refl;
        list_is = λ j. record (e j) { named = named };
        same = refl;
        rest = ap (λ (n : ℕ). read_pairs n key named [] old.bytes.now old.at) z;
      }

  module _ (list : IdList) (i : ℕ) (now : Reader) (g : Gathered key named count old now list i) where
    -- those that were read are those that the list holds
    list_here : pairs_in list.kinds list.numbers list.len ≡ g.read
    unfolding store_list
    list_here = ap (λ (l : IdList). pairs_in l.kinds l.numbers l.len) g.list_is ∙ pairs_in_store (record { items = g.read; named = named })

    abbrev Turns : List Pair → lang.Option (ℕ × ℕ) → Reader → Type 0
    Turns acc r new = Reads (λ l. l) (read_pair key named acc now.bytes.now now.at) now (longer acc r) new

    pub list_wrong : {given : lang.Option IdList} {new end : Reader} {acc : List Pair} → i < count → acc ≡ pairs_in list.kinds list.numbers list.len
        → Turns acc lang.None new → given ≡ lang.None → Reads (list_of named) (read_pairs count key named [] old.bytes.now old.at) old given end
    unfolding longer
    list_wrong h a r =
        let e : read_pair key named g.read now.bytes.now now.at ≡ none = not_read (rw (a ∙ list_here) at r) in
        reads_none (sym g.rest ∙ pairs_turn count i key named g.read now.bytes.now now.at h ∙ then_none _ e)

    list_more : (k n : ℕ) {new : Reader} → i < count → count ≤ most_ids
        → IsRead (λ l. l) (read_pair key named g.read now.bytes.now now.at) now (g.read ++ pair k n ∷ []) new
        → Gathered key named count old new (record { numbers = set list.numbers i n; kinds = set list.kinds i k; len = i + 1; named = list.named }) (i + 1)
    unfolding number_in kind_in pair store_list
    list_more k n {new} h few m =
        let many : length (g.read ++ pair k n ∷ []) ≡ i + 1 = omega (arith, length-append g.read (pair k n ∷ []), g.many) in
        let numbers = set_column number_in most_ids i 0 g.read (pair k n) (ap (λ (l : IdList). l.numbers) g.list_is) refl g.many (omega arith) in
        let kinds = set_column kind_in most_ids i 0 g.read (pair k n) (ap (λ (l : IdList). l.kinds) g.list_is) refl g.many (omega arith) in
        record {
          read = g.read ++ pair k n ∷ [];
          many = many;
          list_is = λ j. record { numbers = numbers j; kinds = kinds j; len = sym many j; named = (g.list_is j).named };
          same = (λ j. (m.stands j).bytes) ∙ g.same;
          rest =
              (λ j. read_pairs (count - (i + 1)) key named (m.value_is j) (m.stands j).bytes.now (m.stands j).at)
              ∙ sym (then_go _ _ m.there) ∙ sym (pairs_turn count i key named g.read now.bytes.now now.at h) ∙ g.rest;
        }

    pub list_next : (k n : ℕ) {new : Reader} {acc : List Pair} → i < count → count ≤ most_ids → acc ≡ pairs_in list.kinds list.numbers list.len
        → Turns acc (lang.Some (k, n)) new
        → Gathered key named count old new (record { numbers = set list.numbers i n; kinds = set list.kinds i k; len = i + 1; named = list.named }) (i + 1)
    unfolding longer
    list_next k n h few a r = list_more k n h few (was_read (rw (a ∙ list_here) at r))

    pub list_end : count ≤ i → Reads (list_of named) (read_pairs count key named [] old.bytes.now old.at) old (lang.Some list) now
    unfolding list_of
    list_end b =
        reads_some (record { value = g.read; next = now.at })
        (sym g.rest ∙ pairs_end count i key named g.read now.bytes.now now.at b)
        (ap lang.Some g.list_is)
        (λ j. record { bytes = g.same j; at = now.at })
