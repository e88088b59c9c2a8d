-- Receptions over a family, what demand 3 speaks of. In this order: keys that are held or started; fields that come to show a set;
-- what arrives, one thing after the other; a worse reception; what a reception comes to show; the keys that it starts.
use Rattle.std.specs.Prelude.{ℕ, zero, suc, ◌≡◌, Bool, false, cond, ◌||◌, List, [], ◌∷◌, ◌++◌, map, length}
use Rattle.std.proofs.Math.Option.{Option, some}
use Rattle.rules.specs.declared.Note.TheVariants.{ShownAndOpened}
use Rattle.rules.specs.Family.{Family, Listed, Act, start, continuation, no_list, drops, Said, Entry, find, step, steps, drop_open, forget}

module _ (F : Family) where
  open F use {Key, same_key, State}

  -- the held keys
  abbrev pub held_keys : List (Entry F) → List Key
  held_keys t = map (λ (e : Entry F). e.key) t

  -- a start's key in front of other keys
  unfoldable pub if_start : Act F → Key → List Key → List Key
  if_start (start l) k ks = k ∷ ks
  if_start (continuation l) k ks = ks
  if_start no_list k ks = ks
  if_start drops k ks = ks

  -- the keys that fields start, whether or not a start finds room
  unfoldable pub started_keys : List (Said F) → List Key
  started_keys [] = []
  started_keys (f ∷ fs) = if_start f.act f.key (started_keys fs)

  -- a key is one of these
  unfoldable pub among : Key → List Key → Bool
  among k [] = false
  among k (l ∷ ls) = same_key k l || among k ls

  -- keys with repeats removed
  unfoldable pub once : List Key → List Key
  once [] = []
  once (k ∷ ks) =
      let rest = once ks in
      cond (among k ks) rest (k ∷ rest)

  -- a field that finds this table comes to show this set with this key and state: its note says so, and right after it that is
  -- what is held of its key, with the field's stamp, whatever list is open then
  pub record Shows (t : List (Entry F)) (f : Said F) (k : Key) (s : State) (l : Listed F) : Type 0 where
    pub noted : (step F t f).1 ≡ ShownAndOpened
    pub draft : Option (Listed F)
    pub found : find F f.key (step F t f).0 ≡ some (record { key = k; state = s; shown = some l; draft = draft; stamp = f.stamp })

  -- field number j of these fields does
  unfoldable pub ShowsIn : List (Entry F) → List (Said F) → ℕ → Key → State → Listed F → Type 0
  ShowsIn t [] j k s l = ⊥
  ShowsIn t (f ∷ fs) zero k s l = Shows t f k s l
  ShowsIn t (f ∷ fs) (suc j) k s l = ShowsIn (step F t f).0 fs j k s l

  -- ---- receptions

  -- what arrives: a block that is taken, with its fields, or one that is refused; what is no block; the wish to forget a key
  pub data Op : Type 0 where
    takes : List (Said F) → Op
    refuses : Op
    ignores : Op
    forgets : Key → Op

  -- what a table then holds
  unfoldable pub after_op : List (Entry F) → Op → List (Entry F)
  after_op t (takes fs) = (steps F t fs).0
  after_op t refuses = drop_open F t
  after_op t ignores = t
  after_op t (forgets k) = forget F k t

  -- its fields, in order
  unfoldable pub said_in : Op → List (Said F)
  said_in (takes fs) = fs
  said_in refuses = []
  said_in ignores = []
  said_in (forgets k) = []

  -- one reception and a worse one: the same, but some blocks are refused (one that is refused anyway stays the same)
  pub data WorseRun : List Op → List Op → Type 0 where
    ends : WorseRun [] []
    keeps : {bs ws : List Op} (o : Op) → WorseRun bs ws → WorseRun (o ∷ bs) (o ∷ ws)
    loses : {bs ws : List Op} (fs : List (Said F)) → WorseRun bs ws → WorseRun (takes fs ∷ bs) (refuses ∷ ws)

  -- a reception that finds this table comes to show this set, with this key and state, at field j of operation i
  unfoldable pub ShowsRun : List (Entry F) → List Op → ℕ → ℕ → Key → State → Listed F → Type 0
  ShowsRun t [] i j k s l = ⊥
  ShowsRun t (o ∷ os) zero j k s l = ShowsIn t (said_in o) j k s l
  ShowsRun t (o ∷ os) (suc i) j k s l = ShowsRun (after_op t o) os i j k s l

  -- the keys that a reception starts, in taken blocks
  unfoldable pub started_run : List Op → List Key
  started_run [] = []
  started_run (o ∷ os) = started_keys (said_in o) ++ started_run os

  -- how many distinct keys a table holds or a reception starts
  unfoldable pub keys_run : List (Entry F) → List Op → ℕ
  keys_run t os = length (once (held_keys t ++ started_run os))
