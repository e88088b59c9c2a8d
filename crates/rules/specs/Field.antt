-- The linking field (document 01): what a type 0 FIG with extension 6 is made of, field by field.
use Rattle.std.specs.Prelude.{ℕ, zero, suc, ◌+◌, ◌*◌, ◌/◌, ◌%◌, Bool, not, cond, ◌&&◌, ◌||◌, List, [], ◌∷◌, map, length, get_or, take, drop, leb, ltb, eqb}
use Rattle.rules.specs.Block.{Step, item, end, wrong, Placed, Walk, walk, Fig}

-- ---- the FIG's own byte: C/N, OE, P/D, extension

-- a FIG that carries service linking: type 0, extension 6
unfoldable pub is_linking : Fig → Bool
is_linking fig = eqb fig.type 0 && eqb (get_or fig.body 0 0 % 32) 6

-- ---- one field

-- a field as its bits say it, with the bits C/N, OE and P/D of its FIG. Without a list, rfu, qualifier and shorthand are 0
-- and there are no identifiers
pub record Field : Type 0 where
  pub cn : ℕ
  pub oe : ℕ
  pub pd : ℕ
  pub flag : ℕ
  pub la : ℕ
  pub hard : ℕ
  pub ils : ℕ
  pub lsn : ℕ
  pub rfu : ℕ
  pub qualifier : ℕ
  pub shorthand : ℕ
  pub numbers : List ℕ

-- the bytes of an identifier: four if P/D is 1, else three if ILS is 1, else two
unfoldable pub width : ℕ → ℕ → ℕ
width pd ils = cond (eqb pd 1) 4 (cond (eqb ils 1) 3 2)

-- the number that these bytes write after those of n, the highest byte first
unfoldable pub big_endian : ℕ → List ℕ → ℕ
big_endian n [] = n
big_endian n (b ∷ bs) = big_endian (n * 256 + b) bs

-- this many identifiers, of w bytes each, from the front of these bytes
unfoldable pub identifiers : ℕ → ℕ → List ℕ → List ℕ
identifiers w zero bytes = []
identifiers w (suc n) bytes = big_endian 0 (take w bytes) ∷ identifiers w n (drop w bytes)

-- a field without a list, from its FIG's byte h and its own two bytes
unfoldable pub short_field : ℕ → ℕ → ℕ → Field
short_field h a b =
    record {
      cn = h / 128;
      oe = h / 64 % 2;
      pd = h / 32 % 2;
      flag = 0;
      la = a / 64 % 2;
      hard = a / 32 % 2;
      ils = a / 16 % 2;
      lsn = a % 16 * 256 + b;
      rfu = 0;
      qualifier = 0;
      shorthand = 0;
      numbers = [];
    }

-- a field with a list, from its FIG's byte h, its own first three bytes and those of its identifiers
unfoldable pub list_field : ℕ → ℕ → ℕ → ℕ → List ℕ → Field
list_field h a b c rest =
    record {
      cn = h / 128;
      oe = h / 64 % 2;
      pd = h / 32 % 2;
      flag = 1;
      la = a / 64 % 2;
      hard = a / 32 % 2;
      ils = a / 16 % 2;
      lsn = a % 16 * 256 + b;
      rfu = c / 128;
      qualifier = c / 32 % 4;
      shorthand = c / 16 % 2;
      numbers = identifiers (width (h / 32 % 2) (a / 16 % 2)) (c % 16) rest;
    }

-- the bytes of a field's identifiers, by its FIG's byte, its first and its third
unfoldable pub list_bytes : ℕ → ℕ → ℕ → ℕ
list_bytes h a c = c % 16 * width (h / 32 % 2) (a / 16 % 2)

-- the field that begins at a place of a FIG's body; one that does not fit in it is wrong
unfoldable pub field_at : List ℕ → ℕ → Step Field
field_at body place =
    cond (leb (length body) place) end
    (cond (ltb (length body) (place + 2)) wrong
    (cond (ltb (get_or body place 0) 128)
    (item (short_field (get_or body 0 0) (get_or body place 0) (get_or body (place + 1) 0)) (place + 2))
    (cond (ltb (length body) (place + 3)) wrong
    (cond (ltb (length body) (place + 3 + list_bytes (get_or body 0 0) (get_or body place 0) (get_or body (place + 2) 0))) wrong
    (item
    (list_field (get_or body 0 0) (get_or body place 0) (get_or body (place + 1) 0) (get_or body (place + 2) 0) (drop (place + 3) body))
    (place + 3 + list_bytes (get_or body 0 0) (get_or body place 0) (get_or body (place + 2) 0)))))))

-- the fields that fill a linking FIG, after its body's first byte; the body begins one byte after the FIG
unfoldable pub fields_of : Placed Fig → Walk (Placed Field)
fields_of fig = walk (fig.place + 1) (field_at fig.what.body) (length fig.what.body) 1

-- ---- what a field says

-- a key: OE, P/D, S/H, ILS and LSN as one number
unfoldable pub key_of : Field → ℕ
key_of f = 32768 * f.oe + 16384 * f.pd + 8192 * f.hard + 4096 * f.ils + f.lsn

-- a kind of identifier, by its qualifier: a DAB service, an RDS code, DRM or AMSS
abbrev pub dab : ℕ
dab = 0

abbrev pub rds : ℕ
rds = 1

abbrev pub drm : ℕ
drm = 3

-- an identifier: its kind and its number, which stay together
pub record Pair : Type 0 where
  pub kind : ℕ
  pub number : ℕ

-- an identifier of a kind
unfoldable pub pair : ℕ → ℕ → Pair
pair k n = record { kind = k; number = n }

-- its number and its kind by themselves
unfoldable pub number_in : Pair → ℕ
number_in p = p.number

unfoldable pub kind_in : Pair → ℕ
kind_in p = p.kind

-- a field with a list is a start if C/N is 0 and a continuation if it is 1
unfoldable pub has_list : Field → Bool
has_list f = eqb f.flag 1

unfoldable pub is_continuation : Field → Bool
is_continuation f = eqb f.cn 1

-- the kind of a start's first identifier, by the start's OE and qualifier: with OE 0 a DAB service, that of the tuned ensemble; with
-- OE 1, where the field speaks of another ensemble, of the qualifier's kind like the rest (document 02, R-3)
unfoldable pub first_kind : ℕ → ℕ → ℕ
first_kind oe qualifier = cond (eqb oe 1) qualifier dab

-- a start's identifiers: the first of its own kind, the others of the qualifier's
unfoldable pub start_pairs : ℕ → ℕ → List ℕ → List Pair
start_pairs first kind [] = []
start_pairs first kind (n ∷ ns) = pair first n ∷ map (pair kind) ns

-- the identifiers of a field
unfoldable pub pairs_of : Field → List Pair
pairs_of f = cond (is_continuation f) (map (pair f.qualifier) f.numbers) (start_pairs (first_kind f.oe f.qualifier) f.qualifier f.numbers)

-- the kinds that a list with this qualifier names, as one number, 1 RDS plus 2 DRM or AMSS: its own, even when no identifier comes
unfoldable pub named_by : ℕ → ℕ
named_by q = cond (eqb q rds) 1 (cond (eqb q drm) 2 0)

-- ---- what is refused in a field

-- LSN 0, Rfu or shorthand 1, qualifier 2, or P/D 1 with a qualifier not 0
unfoldable pub wrong_value : Field → Bool
wrong_value f =
    eqb f.lsn 0 || eqb f.rfu 1 || eqb f.shorthand 1 || eqb f.qualifier 2 || (eqb f.pd 1 && not (eqb f.qualifier 0))

-- a start with count 0
unfoldable pub empty_start : Field → Bool
empty_start f = has_list f && not (is_continuation f) && eqb (length f.numbers) 0
