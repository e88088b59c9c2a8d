-- How a list of identifiers is stored (document 01, Collecting: one content has one stored form, unused places included).
-- A set has at least one identifier, so length 0, with everything zero, is the stored form of no list.
use Rattle.std.specs.Prelude.{ℕ, ◌≡◌, Bool, ◌&&◌, true, List, [], ◌∷◌, map, length, get_or, take, drop, replicate, eqb, leb}
use Rattle.std.specs.List.{list_all}
use Rattle.std.proofs.Math.Option.{Option, none, some}
use Rattle.rules.specs.Arrays.{padded}
use Rattle.rules.specs.Field.{Pair, pair, number_in, kind_in}
use Rattle.rules.specs.Collecting.{IdSet, if_there, most_ids, key_width, may_begin, names_meet, pairs_meet, all_differ}
use Rattle.lists.specs.declared.IdList.{IdList}
use Rattle.lists.specs.declared.Pairs.{Pairs}

-- a list: numbers and kinds from place 0 on, zeros past them
unfoldable pub store_list : IdSet → IdList
store_list l =
    record {
      numbers = padded most_ids 0 (map number_in l.items);
      kinds = padded most_ids 0 (map kind_in l.items);
      len = length l.items;
      named = l.named;
    }

-- no list
unfoldable pub empty_list : IdList
empty_list = record { numbers = replicate most_ids 0; kinds = replicate most_ids 0; len = 0; named = 0 }

unfoldable pub store_maybe : Option IdSet → IdList
store_maybe none = empty_list
store_maybe (some l) = store_list l

-- kinds and numbers side by side
unfoldable pub paired : List ℕ → List ℕ → List Pair
paired [] ns = []
paired (k ∷ ks) [] = []
paired (k ∷ ks) (n ∷ ns) = pair k n ∷ paired ks ns

-- the identifiers that two slices list
abbrev pub listed : Pairs → List Pair
listed p = paired p.kinds.now p.numbers.now

-- the pairs that stand in the first len places of two arrays
unfoldable pub pairs_in : List ℕ → List ℕ → ℕ → List Pair
pairs_in kinds numbers len = take len (paired kinds numbers)

-- every number is a certain one, by a test that says of two whether they are the same
abbrev pub all_are : {A : Type 0} → (A → A → Bool) → A → List A → Bool
all_are same one xs = list_all (λ x. same x one) xs

-- every number is zero
abbrev pub all_zero : List ℕ → Bool
all_zero xs = all_are eqb 0 xs

-- no more identifiers than there is room for, and zeros past them
abbrev pub is_padded : IdList → Bool
is_padded l = leb l.len most_ids && all_zero (drop l.len l.numbers) && all_zero (drop l.len l.kinds)

-- the identifiers, of which there are some, and the named kinds meet the rules for a key
abbrev pub meets_rules : ℕ → IdList → Bool
meets_rules key l =
    may_begin key (get_or l.kinds 0 0) && names_meet key l.named
    && pairs_meet (key_width key) l.named (pairs_in l.kinds l.numbers l.len) && all_differ (pairs_in l.kinds l.numbers l.len)

-- what is stored is the stored form of a list that meets the rules for its key, or of none
unfoldable pub Holds : ℕ → IdList → Type 0
Holds key l = (o : Option IdSet) × (if_there key o ≡ true) × (l ≡ store_maybe o)

-- a test says exactly whether it is
pub record Tested (answer : Bool) (P : Type 0) : Type 0 where
  pub sound : answer ≡ true → P
  pub complete : P → answer ≡ true
