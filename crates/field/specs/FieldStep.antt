-- What the functions on a linking field answer, and what a field and an identifier of the code mean by the rules.
use Rattle.std.specs.Prelude.{ℕ, zero, suc, ◌+◌, ◌*◌, ◌/◌, ◌%◌, Bool, not, cond, ◌&&◌, ◌||◌, List, [], ◌∷◌, length, get_or, drop, leb, ltb, eqb}
use Rattle.field.specs.declared.Identifier.{Identifier}
use Rattle.field.specs.declared.Identifier.TheVariants.{Dab, Rds, Drm}
use Rattle.field.specs.declared.Field.{Field}
use Rattle.field.specs.declared.FieldStep.{FieldStep}
use Rattle.field.specs.declared.FieldStep.TheVariants.{Found, End, Wrong}
use Rattle.rules.specs.Block.{Step, item, end, wrong}
use Rattle.rules.specs.Field.{Field as FieldOf, Pair, dab, rds, drm, is_linking, width, list_bytes, big_endian, identifiers, first_kind, pairs_of}

-- a FIG of this type and body carries service linking
unfoldable pub linking : ℕ → List ℕ → Bool
linking kind body = is_linking (record { type = kind; body = body })

-- ---- the field at a place

-- the head of a field with this list flag, from its FIG's byte h and its own three bytes, the third 0 where there is no list
abbrev pub head_of : ℕ → ℕ → ℕ → ℕ → ℕ → ℕ → Field
head_of flag h a b c from =
    record {
      cn = h / 128;
      oe = h / 64 % 2;
      pd = h / 32 % 2;
      flag = flag;
      la = a / 64 % 2;
      hard = a / 32 % 2;
      ils = a / 16 % 2;
      lsn = a % 16 * 256 + b;
      rfu = c / 128;
      qualifier = c / 32 % 4;
      shorthand = c / 16 % 2;
      count = c % 16;
      from = from;
    }

-- the answer at a place of a body, by the tests of field_at, in its order; identifiers begin after the field's own bytes
unfoldable pub field_step_at : List ℕ → ℕ → FieldStep
field_step_at body at =
    cond (leb (length body) at) End
    (cond (ltb (length body) (at + 2)) Wrong
    (cond (ltb (get_or body at 0) 128)
    (Found (head_of 0 (get_or body 0 0) (get_or body at 0) (get_or body (at + 1) 0) 0 (at + 2)) (at + 2))
    (cond (ltb (length body) (at + 3)) Wrong
    (cond (ltb (length body) (at + 3 + list_bytes (get_or body 0 0) (get_or body at 0) (get_or body (at + 2) 0))) Wrong
    (Found
    (head_of 1 (get_or body 0 0) (get_or body at 0) (get_or body (at + 1) 0) (get_or body (at + 2) 0) (at + 3))
    (at + 3 + list_bytes (get_or body 0 0) (get_or body at 0) (get_or body (at + 2) 0)))))))

-- a field of the rules: the same bits, and the numbers that the body has from the field's place on
unfoldable pub meaning : List ℕ → Field → FieldOf
meaning body f =
    record {
      cn = f.cn;
      oe = f.oe;
      pd = f.pd;
      flag = f.flag;
      la = f.la;
      hard = f.hard;
      ils = f.ils;
      lsn = f.lsn;
      rfu = f.rfu;
      qualifier = f.qualifier;
      shorthand = f.shorthand;
      numbers = identifiers (width f.pd f.ils) f.count (drop f.from body);
    }

-- an answer as a step of the rules
unfoldable pub found : List ℕ → FieldStep → Step FieldOf
found body (Found f next) = item (meaning body f) next
found body End = end
found body Wrong = wrong

-- ---- what a field says

-- OE, P/D, S/H, ILS and LSN as one number
abbrev pub key_in : Field → ℕ
key_in f = 32768 * f.oe + 16384 * f.pd + 8192 * f.hard + 4096 * f.ils + f.lsn

-- the field brings a list
abbrev pub has_list_in : Field → Bool
has_list_in f = eqb f.flag 1

-- its list is a continuation
abbrev pub continues : Field → Bool
continues f = eqb f.cn 1

-- LSN 0, Rfu or shorthand 1, qualifier 2, or P/D 1 with a qualifier not 0
unfoldable pub wrong_in : Field → Bool
wrong_in f =
    eqb f.lsn 0 || eqb f.rfu 1 || eqb f.shorthand 1 || eqb f.qualifier 2 || (eqb f.pd 1 && not (eqb f.qualifier 0))

-- a start with count 0
unfoldable pub empty_in : Field → Bool
empty_in f = has_list_in f && not (continues f) && eqb f.count 0

-- ---- its identifiers

-- w bytes from a place on, 0 beyond the end
unfoldable pub bytes_at : ℕ → List ℕ → ℕ → List ℕ
bytes_at zero body place = []
bytes_at (suc w) body place = get_or body place 0 ∷ bytes_at w body (place + 1)

-- the number that they write
unfoldable pub number_at : ℕ → List ℕ → ℕ → ℕ
number_at w body place = big_endian 0 (bytes_at w body place)

-- the kind of the i-th identifier: the first of a start is of its own, the others are of the qualifier's kind
unfoldable pub kind_at : Field → ℕ → ℕ
kind_at f i = cond (eqb f.cn 1) f.qualifier (cond (eqb i 0) (first_kind f.oe f.qualifier) f.qualifier)

-- an identifier of a kind; a kind that there is not counts as DAB
unfoldable pub of_kind : ℕ → ℕ → Identifier
of_kind k n = cond (eqb k rds) (Rds (record { 0 = n })) (cond (eqb k drm) (Drm (record { 0 = n })) (Dab (record { 0 = n })))

-- the i-th identifier of a field; an index of 16 or more, or a body that ends before the identifiers begin, gives DAB
-- service 0
unfoldable pub identifier_at : List ℕ → Field → ℕ → Identifier
identifier_at body f i =
    cond (leb 16 i) (Dab (record { 0 = 0 }))
    (cond (leb (length body) f.from) (Dab (record { 0 = 0 }))
    (of_kind (kind_at f i) (number_at (width f.pd f.ils) body (f.from + i * width f.pd f.ils))))

-- an identifier as a pair of the rules
abbrev pub pair_of : Identifier → Pair
pair_of (Dab s) = record { kind = dab; number = s.0 }
pair_of (Rds p) = record { kind = rds; number = p.0 }
pair_of (Drm a) = record { kind = drm; number = a.0 }

-- the identifiers of a field from the i-th on
unfoldable pub pairs_from : List ℕ → Field → ℕ → List Pair
pairs_from body f i = drop i (pairs_of (meaning body f))
