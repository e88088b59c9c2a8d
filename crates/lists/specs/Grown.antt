-- A list with a field's identifiers added at its end (document 01, Collecting), on the stored form.
use Rattle.std.specs.Prelude.{ℕ, zero, suc, ◌+◌, cond, List, [], ◌∷◌, set, ltb, Option, Some, None}
use Rattle.rules.specs.Field.{Pair, named_by}
use Rattle.rules.specs.Family.{member}
use Rattle.rules.specs.Collecting.{linkage, join_names, most_ids}
use Rattle.field.specs.declared.Field.{Field}
use Rattle.field.specs.FieldStep.{identifier_at, pair_of}
use Rattle.lists.specs.declared.IdList.{IdList}
use Rattle.lists.specs.Stored.{pairs_in}

-- one pair more at the end
unfoldable pub put : IdList → Pair → IdList
put l p =
    record { numbers = set l.numbers l.len p.number; kinds = set l.kinds l.len p.kind; len = l.len + 1; named = l.named }

-- the pairs in order, each once; nothing where one more would not fit
unfoldable pub grown : IdList → List Pair → Option IdList
grown l [] = Some l
grown l (p ∷ ps) =
    cond (member linkage p (pairs_in l.kinds l.numbers l.len)) (grown l ps) (cond (ltb l.len most_ids) (grown (put l p) ps) None)

-- n identifiers of a field from the i-th on
unfoldable pub field_pairs : List ℕ → Field → ℕ → ℕ → List Pair
field_pairs body f i zero = []
field_pairs body f i (suc n) = pair_of (identifier_at body f i) ∷ field_pairs body f (i + 1) n

-- with the names of the field's qualifier
unfoldable pub renamed : IdList → ℕ → IdList
renamed l named = record { numbers = l.numbers; kinds = l.kinds; len = l.len; named = named }

-- a list with all identifiers of a field, or none where they would be too many
unfoldable pub with_field : IdList → List ℕ → Field → Option IdList
with_field l body f = grown (renamed l (join_names l.named (named_by f.qualifier))) (field_pairs body f 0 f.count)
