-- Collecting (document 01), over a family of keys and items: linkage sets are an instance (Collecting.antt).
use Rattle.std.specs.Prelude.{ℕ, suc, Bool, true, false, not, cond, ◌&&◌, ◌||◌, List, [], ◌∷◌, ◌++◌, map, length, leb, ltb}
use Rattle.std.proofs.Math.Option.{Option, none, some}
use Rattle.rules.specs.declared.Note.{Note}
use Rattle.rules.specs.declared.Note.TheVariants.{Opened, ShownAndOpened, Added, NoOpenList, Full, TooLong, StateOnly, UnknownKey, Dropped}

-- what a family fixes: its keys and their order, its items, what a list names besides its items, what every field sets, what marks
-- the field at which a set came to be shown, and the table's limits: keys to the table, items to a list
pub record Family : Type 1 where
  pub Key : Type 0
  pub same_key : Key → Key → Bool
  pub key_before : Key → Key → Bool
  pub Item : Type 0
  pub same_item : Item → Item → Bool
  pub Names : Type 0
  pub join : Names → Names → Names
  pub State : Type 0
  pub Stamp : Type 0
  pub unstamped : Stamp
  pub room : ℕ
  pub most : ℕ

module _ (F : Family) where
  open F use {Key, same_key, key_before, Item, same_item, Names, join, State, Stamp, unstamped, room, most}

  -- items in order, and what was named with them: a shown set, an open list, or what one field brings
  pub record Listed : Type 0 where
    pub items : List Item
    pub named : Names

  -- what a field asks for: a start and a continuation bring items; the open list may be dropped
  pub data Act : Type 0 where
    start : Listed → Act
    continuation : Listed → Act
    no_list : Act
    drops : Act

  -- a field of a taken block
  pub record Said : Type 0 where
    pub key : Key
    pub state : State
    pub act : Act
    pub stamp : Stamp

  -- a held key: its state, its shown set, its open list, and the stamp of the field at which its set was last shown
  pub record Entry : Type 0 where
    pub key : Key
    pub state : State
    pub shown : Option Listed
    pub draft : Option Listed
    pub stamp : Stamp

  -- ---- a list of items

  unfoldable pub member : Item → List Item → Bool
  member x [] = false
  member x (y ∷ ys) = same_item x y || member x ys

  -- an item at the end, unless it is there already
  unfoldable pub added : List Item → Item → List Item
  added xs x = cond (member x xs) xs (xs ++ x ∷ [])

  -- items at the end, in order, each once
  unfoldable pub added_all : List Item → List Item → List Item
  added_all xs [] = xs
  added_all xs (y ∷ ys) = added_all (added xs y) ys

  -- a new list with these items, each once
  unfoldable pub opening : Listed → Listed
  opening l = record { items = added_all [] l.items; named = l.named }

  -- a list with a continuation's items
  unfoldable pub extended : Listed → Listed → Listed
  extended l m = record { items = added_all l.items m.items; named = join l.named m.named }

  -- ---- what a field does to its key's entry

  -- an entry with another state, shown set and open list
  unfoldable pub entry_with : Entry → State → Option Listed → Option Listed → Entry
  entry_with e s shown draft = record { key = e.key; state = s; shown = shown; draft = draft; stamp = e.stamp }

  -- a start of a held key: the open list, if there is one, becomes the shown set, with the field's stamp, and a new list opens
  unfoldable pub started : Entry → State → Stamp → Listed → Option Listed → Entry × Note
  started e s p l none = (entry_with e s e.shown (some (opening l)), Opened)
  started e s p l (some d) =
      (record { key = e.key; state = s; shown = some d; draft = some (opening l); stamp = p }, ShownAndOpened)

  -- a continuation of a held key: its items are added to the open list, which is dropped if it would grow too long
  unfoldable pub continued : Entry → State → Listed → Option Listed → Entry × Note
  continued e s l none = (entry_with e s e.shown none, NoOpenList)
  continued e s l (some d) =
      cond (leb (length (extended d l).items) most)
      (entry_with e s e.shown (some (extended d l)), Added)
      (entry_with e s e.shown none, TooLong)

  -- a field of a held key. Every one sets the state
  unfoldable pub on_held : Entry → State → Stamp → Act → Entry × Note
  on_held e s p (start l) = started e s p l e.draft
  on_held e s p (continuation l) = continued e s l e.draft
  on_held e s p no_list = (entry_with e s e.shown e.draft, StateOnly)
  on_held e s p drops = (entry_with e s e.shown none, Dropped)

  -- the entry of a key that a start makes held
  unfoldable pub fresh : Key → State → Listed → Entry
  fresh k s l = record { key = k; state = s; shown = none; draft = some (opening l); stamp = unstamped }

  -- a field of a key that is not held, with room for one more or not
  unfoldable pub on_unheld : Bool → Key → State → Act → Option Entry × Note
  on_unheld true k s (start l) = (some (fresh k s l), Opened)
  on_unheld false k s (start l) = (none, Full)
  on_unheld r k s (continuation l) = (none, UnknownKey)
  on_unheld r k s no_list = (none, UnknownKey)
  on_unheld r k s drops = (none, UnknownKey)

  unfoldable pub kept : Entry × Note → Option Entry × Note
  kept r = (some r.0, r.1)

  -- what a field makes of what is held of its key, with room for one more key or not
  unfoldable pub effect : Bool → Said → Option Entry → Option Entry × Note
  effect r f none = on_unheld r f.key f.state f.act
  effect r f (some e) = kept (on_held e f.state f.stamp f.act)

  -- ---- the table: the entries of the held keys, in ascending key order

  unfoldable pub find : Key → List Entry → Option Entry
  find k [] = none
  find k (e ∷ es) = cond (same_key k e.key) (some e) (find k es)

  -- the entry of a key replaced
  unfoldable pub replace : Entry → List Entry → List Entry
  replace e [] = []
  replace e (x ∷ xs) = cond (same_key e.key x.key) (e ∷ xs) (x ∷ replace e xs)

  -- the entry of a new key at its place
  unfoldable pub insert : Entry → List Entry → List Entry
  insert e [] = e ∷ []
  insert e (x ∷ xs) = cond (key_before e.key x.key) (e ∷ x ∷ xs) (x ∷ insert e xs)

  -- what there was of a key and what there is now, put into the table
  unfoldable pub store : Option Entry → Option Entry → List Entry → List Entry
  store old none t = t
  store none (some e) t = insert e t
  store (some old) (some e) t = replace e t

  -- one field
  unfoldable pub step : List Entry → Said → List Entry × Note
  step t f =
      let r = effect (ltb (length t) room) f (find f.key t) in
      (store (find f.key t) r.0 t, r.1)

  -- fields in order, with a note for each
  unfoldable pub steps : List Entry → List Said → List Entry × List Note
  steps t [] = (t, [])
  steps t (f ∷ fs) =
      let r = step t f in
      let s = steps r.0 fs in
      (s.0, r.1 ∷ s.1)

  -- all open lists dropped
  unfoldable pub closed : Entry → Entry
  closed e = entry_with e e.state e.shown none

  unfoldable pub drop_open : List Entry → List Entry
  drop_open t = map closed t

  -- a key forgotten, all of it
  unfoldable pub forget : Key → List Entry → List Entry
  forget k [] = []
  forget k (e ∷ es) = cond (same_key k e.key) es (e ∷ forget k es)

  -- among keys in ascending order, the place at which a key stands or would stand: the first whose key is not before it
  unfoldable pub place_in : List Key → Key → ℕ
  place_in [] k = 0
  place_in (l ∷ ls) k = cond (key_before l k) (suc (place_in ls k)) 0

  -- ---- the table rules

  -- what a family asks of what a table holds: of a key, of a list under its key, of a stamp beside what is shown, and of the first key
  pub record Rules : Type 0 where
    pub key_meets : Key → Bool
    pub list_meets : Key → Listed → Bool
    pub stamp_meets : Option Listed → Stamp → Bool
    pub begins : Key → Bool

  -- no item stands twice
  abbrev pub items_differ : List Item → Bool
  items_differ [] = true
  items_differ (x ∷ xs) = not (member x xs) && items_differ xs

  -- a shown set or an open list, if it is there
  abbrev pub maybe_meets : Rules → Key → Option Listed → Bool
  maybe_meets r k none = true
  maybe_meets r k (some l) = r.list_meets k l

  -- a stamp, a key and its lists
  unfoldable pub held_meets : Rules → Entry → Bool
  held_meets r e =
      r.stamp_meets e.shown e.stamp && r.key_meets e.key
      && maybe_meets r e.key e.shown && maybe_meets r e.key e.draft

  abbrev pub all_meet : Rules → List Entry → Bool
  all_meet r [] = true
  all_meet r (e ∷ es) = held_meets r e && all_meet r es

  -- keys differ, and ascend: the one order in which a content is stored. The first is as asked
  abbrev pub goes_up : (Key → Bool) → List Entry → Bool
  goes_up asked [] = true
  goes_up asked (e ∷ es) = asked e.key && goes_up (key_before e.key) es

  -- no more keys than there is room for
  abbrev pub table_meets : Rules → List Entry → Bool
  table_meets r t = leb (length t) room && goes_up r.begins t && all_meet r t
