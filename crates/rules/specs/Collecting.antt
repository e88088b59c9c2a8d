-- Collecting (document 01): linkage sets as an instance of the family, copying out, and the table rules.
use Rattle.std.specs.Prelude.{ℕ, ◌+◌, ◌*◌, ◌/◌, ◌%◌, ◌^◌, max, min, Bool, true, false, not, cond, ◌&&◌, ◌||◌, List, [], ◌∷◌, length, leb, ltb, eqb}
use Rattle.std.proofs.Math.Option.{Option, none, some}
use Rattle.rules.specs.Field.{Field, key_of, Pair, first_kind, pairs_of, named_by, has_list, is_continuation, width, dab, rds, drm}
use Rattle.rules.specs.Family.{Family, Listed, Act, start, continuation, no_list, Said, Entry, items_differ, Rules, maybe_meets, held_meets, goes_up, all_meet, table_meets}

-- ---- the family of linkage sets

-- identifiers are the same where both kind and number are
unfoldable pub same_pair : Pair → Pair → Bool
same_pair p q = eqb p.kind q.kind && eqb p.number q.number

-- named kinds, 1 RDS plus 2 DRM or AMSS, of two lists together
unfoldable pub join_names : ℕ → ℕ → ℕ
join_names a b = max (a % 2) (b % 2) + 2 * max (a / 2) (b / 2)

-- the limits: keys to a table, identifiers to a set
abbrev pub most_keys : ℕ
most_keys = 32

abbrev pub most_ids : ℕ
most_ids = 128

-- the number at which counting blocks stops (document 02, R-9)
abbrev pub most_blocks : ℕ
most_blocks = 4294967295

-- keys and identifiers of linking, on or off; the stamp is the number of the block at which a set was last shown, 0 for none
abbrev pub linkage : Family
linkage =
    record {
      Key = ℕ;
      same_key = eqb;
      key_before = ltb;
      Item = Pair;
      same_item = same_pair;
      Names = ℕ;
      join = join_names;
      State = Bool;
      Stamp = ℕ;
      unstamped = 0;
      room = most_keys;
      most = most_ids;
    }

-- a shown set or an open list; what is held of a key; of all keys, in ascending order
abbrev pub IdSet : Type 0
IdSet = Listed linkage

abbrev pub Held : Type 0
Held = Entry linkage

abbrev pub Entries : Type 0
Entries = List Held

-- what a table holds: its sets, and how many blocks it has counted
pub record Content : Type 0 where
  pub sets : Entries
  pub blocks : ℕ

-- a table that holds nothing; one that holds these sets alone; a table with other sets
abbrev pub nothing : Content
nothing = record { sets = []; blocks = 0 }

abbrev pub just_sets : Entries → Content
just_sets s = record { sets = s; blocks = 0 }

abbrev pub with_sets : Content → Entries → Content
with_sets t s = record { sets = s; blocks = t.blocks }

-- blocks are numbered from 1: the number of the block after so many
unfoldable pub next_block : ℕ → ℕ
next_block n = min (n + 1) most_blocks

-- a table after one block more, with other sets
abbrev pub after_block : Content → Entries → Content
after_block t s = record { sets = s; blocks = next_block t.blocks }

-- what a field brings
unfoldable pub brings : Field → IdSet
brings f = record { items = pairs_of f; named = named_by f.qualifier }

-- what a field asks for
unfoldable pub act_of : Field → Act linkage
act_of f = cond (has_list f) (cond (is_continuation f) (continuation (brings f)) (start (brings f))) no_list

-- what a field says in the block of a number
unfoldable pub said : ℕ → Field → Said linkage
said n f = record { key = key_of f; state = eqb f.la 1; act = act_of f; stamp = n }

-- ---- the table rules

-- a number that is a key: below 65,536, with LSN not 0
abbrev pub is_key : ℕ → Bool
is_key k = ltb k 65536 && not (eqb (k % 4096) 0)

-- the bytes of an identifier of a key, by its P/D and ILS bits
unfoldable pub key_width : ℕ → ℕ
key_width k = width (k / 16384 % 2) (k / 4096 % 2)

-- no pair stands twice
unfoldable pub all_differ : List Pair → Bool
all_differ ps = items_differ linkage ps

-- there is a pair
unfoldable pub not_empty : List Pair → Bool
not_empty [] = false
not_empty (p ∷ ps) = true

-- a key's OE bit
abbrev pub oe_of : ℕ → ℕ
oe_of k = k / 32768 % 2

-- the kind of the first identifier of a key's start, by the start's qualifier
unfoldable pub first_of : ℕ → ℕ → ℕ
first_of k qualifier = first_kind (oe_of k) qualifier

-- the kinds that a set of a key may begin with: those that a start with that qualifier begins with
unfoldable pub may_begin : ℕ → ℕ → Bool
may_begin k kind = eqb (first_of k kind) kind

-- the first, if there is one, is of such a kind
unfoldable pub begins_right : ℕ → List Pair → Bool
begins_right k [] = true
begins_right k (p ∷ ps) = may_begin k p.kind

-- a kind that there is, and that is named if it is RDS or DRM
unfoldable pub kind_named : ℕ → ℕ → Bool
kind_named named k = eqb k dab || (eqb k rds && eqb (named % 2) 1) || (eqb k drm && eqb (named / 2) 1)

-- every number is within the key's width and every kind among the named
unfoldable pub pairs_meet : ℕ → ℕ → List Pair → Bool
pairs_meet w named [] = true
pairs_meet w named (p ∷ ps) = ltb p.number (256 ^ w) && kind_named named p.kind && pairs_meet w named ps

-- RDS or DRM only are named; with P/D 1 none is, so that all are DAB
unfoldable pub names_meet : ℕ → ℕ → Bool
names_meet k named = cond (eqb (k / 16384 % 2) 1) (eqb named 0) (ltb named 4)

-- a shown set or an open list: 1 to 128 different pairs, the first of a kind that may begin it, ..
unfoldable pub set_meets : ℕ → IdSet → Bool
set_meets k l =
    leb (length l.items) most_ids && not_empty l.items && begins_right k l.items && all_differ l.items
    && pairs_meet (key_width k) l.named l.items && names_meet k l.named

-- where no set is shown, the number is 0
unfoldable pub number_meets : Option IdSet → ℕ → Bool
number_meets none n = eqb n 0
number_meets (some l) n = true

-- the rules of linkage: a key, its sets, the number of the shown one, and the first key above 0
abbrev pub linkage_rules : Rules linkage
linkage_rules =
    record {
      key_meets = is_key;
      list_meets = set_meets;
      stamp_meets = number_meets;
      begins = ltb 0;
    }

-- by these rules: a set that may be there, a held key, keys in ascending order above one, all held keys
unfoldable pub if_there : ℕ → Option IdSet → Bool
if_there k o = maybe_meets linkage linkage_rules k o

abbrev pub entry_meets : Held → Bool
entry_meets e = held_meets linkage linkage_rules e

unfoldable pub ascends : ℕ → Entries → Bool
ascends last t = goes_up linkage (ltb last) t

unfoldable pub entries_meet : Entries → Bool
entries_meet t = all_meet linkage linkage_rules t

-- the rules of the sets; 32 keys at most
unfoldable pub sets_meet : Entries → Bool
sets_meet t = table_meets linkage linkage_rules t

-- no number is above so many blocks
unfoldable pub numbers_within : ℕ → Entries → Bool
numbers_within n [] = true
numbers_within n (e ∷ es) = leb e.stamp n && numbers_within n es

-- the table rules: those of the sets, no number above the table's own count, and a count that is stored
unfoldable pub meets : Content → Bool
meets t = sets_meet t.sets && numbers_within t.blocks t.sets && leb t.blocks most_blocks

-- ---- what a table shows

-- a shown set with its key and its on or off
pub record Shown : Type 0 where
  pub key : ℕ
  pub on : Bool
  pub set : IdSet

unfoldable pub showing : Held → Option IdSet → List Shown → List Shown
showing e none rest = rest
showing e (some l) rest = record { key = e.key; on = e.state; set = l } ∷ rest

-- the shown sets, in ascending key order
unfoldable pub shown_sets : Entries → List Shown
shown_sets [] = []
shown_sets (e ∷ es) = showing e e.shown (shown_sets es)

-- a shown set with the number of the block at which it was last shown (document 02, R-9)
pub record Confirmed : Type 0 where
  pub shown : Shown
  pub block : ℕ

unfoldable pub confirming : Held → Option IdSet → List Confirmed → List Confirmed
confirming e none rest = rest
confirming e (some l) rest = record { shown = record { key = e.key; on = e.state; set = l }; block = e.stamp } ∷ rest

-- the same sets with their numbers
unfoldable pub confirmed_sets : Entries → List Confirmed
confirmed_sets [] = []
confirmed_sets (e ∷ es) = confirming e e.shown (confirmed_sets es)
