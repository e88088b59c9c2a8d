-- Reading a sheet from its bytes by places, as a program does: the definitions alone, in the order number, pair, set, sheet.
-- SheetParseLaws.antt shows that they accept exactly the sheets that tables write.
use Rattle.std.specs.Prelude.{ℕ, zero, suc, ◌+◌, ◌*◌, ◌%◌, ◌^◌, Bool, not, cond, ◌&&◌, ◌||◌, List, [], ◌∷◌, ◌++◌, length, get_or, leb, ltb, eqb}
use Rattle.std.proofs.Math.Option.{Option, none, some}
use Rattle.rules.specs.Field.{Pair, pair}
use Rattle.rules.specs.Family.{member}
use Rattle.rules.specs.Collecting.{linkage, Entries, Content, just_sets, Shown, is_key, key_width, may_begin, kind_named, names_meet, most_keys, most_ids}
use Rattle.layout.specs.Sheet.{alone}

-- something read, and the place after it
pub record Read (A : Type 0) : Type 0 where
  pub value : A
  pub next : ℕ

-- going on with what was read and from the place after it, if it could be read
unfoldable pub and_then : {A B : Type 0} → Option (Read A) → (A → ℕ → Option B) → Option B
and_then none go = none
and_then (some r) go = go r.value r.next

-- ---- a number

-- the lowest groups gave value, the next one counts scale times; at most left bytes more. The fifth byte is at most 15, and
-- a last byte 0 stands only alone
unfoldable pub read_groups : ℕ → ℕ → ℕ → List ℕ → ℕ → Option (Read ℕ)
read_groups zero scale value bytes at = none
read_groups (suc left) scale value bytes at =
    let rest = read_groups left (scale * 128) (value + get_or bytes at 0 % 128 * scale) bytes (at + 1) in
    cond (leb (length bytes) at) none
    (cond (eqb left 0 && ltb 15 (get_or bytes at 0)) none
    (cond (eqb (get_or bytes at 0) 0 && not (eqb scale 1)) none
    (cond (ltb (get_or bytes at 0) 128) (some (record { value = value + get_or bytes at 0 * scale; next = at + 1 })) rest)))

unfoldable pub read_number : List ℕ → ℕ → Option (Read ℕ)
read_number bytes at = read_groups 5 1 0 bytes at

-- a number that passes a test
unfoldable pub read_if : (ℕ → Bool) → List ℕ → ℕ → Option (Read ℕ)
read_if test bytes at = and_then (read_number bytes at) (λ n next. cond (test n) (some (record { value = n; next = next })) none)

-- ---- pairs

-- a kind that may come next in a list of a key with these named kinds: the first is one that may begin it
unfoldable pub kind_fits : ℕ → ℕ → List Pair → ℕ → Bool
kind_fits key named acc kind = kind_named named kind && (may_begin key kind || not (eqb (length acc) 0))

-- a number that may come next with this kind: within the width, and not there already
unfoldable pub number_fits : ℕ → List Pair → ℕ → ℕ → Bool
number_fits w acc kind number = ltb number (256 ^ w) && not (member linkage (pair kind number) acc)

-- a list of a key with the pair that stands at a place
unfoldable pub read_pair : ℕ → ℕ → List Pair → List ℕ → ℕ → Option (Read (List Pair))
read_pair key named acc bytes at =
    and_then (read_if (kind_fits key named acc) bytes at) (λ kind place.
    and_then (read_if (number_fits (key_width key) acc kind) bytes place) (λ number next.
    some (record { value = acc ++ pair kind number ∷ []; next = next })))

-- a list with this many pairs more
unfoldable pub read_pairs : ℕ → ℕ → ℕ → List Pair → List ℕ → ℕ → Option (Read (List Pair))
read_pairs zero key named acc bytes at = some (record { value = acc; next = at })
read_pairs (suc n) key named acc bytes at =
    and_then (read_pair key named acc bytes at) (λ longer next. read_pairs n key named longer bytes next)

-- ---- sets

-- a key that may come after another
unfoldable pub key_fits : ℕ → ℕ → Bool
key_fits last key = ltb last key && is_key key

unfoldable pub count_fits : ℕ → Bool
count_fits count = leb 1 count && leb count most_ids

-- what stands in front of a set's pairs
pub record Head : Type 0 where
  pub key : ℕ
  pub on : Bool
  pub named : ℕ
  pub count : ℕ

unfoldable pub read_head : ℕ → List ℕ → ℕ → Option (Read Head)
read_head last bytes at =
    and_then (read_if (key_fits last) bytes at) (λ key a.
    and_then (read_if (λ on. leb on 1) bytes a) (λ on b.
    and_then (read_if (names_meet key) bytes b) (λ named c.
    and_then (read_if count_fits bytes c) (λ count next.
    some (record { value = record { key = key; on = eqb on 1; named = named; count = count }; next = next })))))

-- the set of these pairs
unfoldable pub set_of : Head → List Pair → Shown
set_of h items = record { key = h.key; on = h.on; set = record { items = items; named = h.named } }

-- a set whose key comes after another
unfoldable pub read_set : ℕ → List ℕ → ℕ → Option (Read Shown)
read_set last bytes at =
    and_then (read_head last bytes at) (λ h place.
    and_then (read_pairs h.count h.key h.named [] bytes place) (λ items next.
    some (record { value = set_of h items; next = next })))

-- a content with this many sets more, whose keys come after another
unfoldable pub read_sets : ℕ → ℕ → Entries → List ℕ → ℕ → Option (Read Entries)
read_sets zero last acc bytes at = some (record { value = acc; next = at })
read_sets (suc n) last acc bytes at =
    and_then (read_set last bytes at) (λ s next. read_sets n s.key (acc ++ alone s ∷ []) bytes next)

-- ---- the sheet

-- at most 32 sets, and nothing left over
unfoldable pub parse_sheet : List ℕ → Option Content
parse_sheet bytes =
    and_then (read_if (λ n. leb n most_keys) bytes 0) (λ count place.
    and_then (read_sets count 0 [] bytes place) (λ t next.
    cond (eqb next (length bytes)) (some (just_sets t)) none))
