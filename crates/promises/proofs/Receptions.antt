-- Two receptions, one worse: what both then hold of a key at a field of which the worse one came to show a set. In order: an element of a
-- mapped list; a reception as one of the family's; a reception cut after an operation; both receptions.
use Prim.Native.Nat.{ℕ, zero, suc, ◌≤◌}
use mathlib.Core.Path.{◌≡◌, refl, ap, ap₂, ◌∙◌}
use mathlib.Core.Bool.{true}
use mathlib.Core.List.{List, [], ◌∷◌, map}
use mathlib.Core.Option.{some}
use lib.ListN.{take, get_elem?}
use Rattle.rules.specs.Field.{Field, key_of}
use Rattle.rules.specs.Family.{Said, find}
use Rattle.rules.specs.Collecting.{linkage, Entries, Content, next_block, said, meets, Shown, most_keys}
use Rattle.promises.specs.Demand3.{Operation, block, after_one, fields_in, said_by, Worse, over, same, spoilt, ShowsAt, key_count}
use Rattle.rules.proofs.Basics.{none_some}
use Rattle.rules.proofs.Runs.{run}
use Rattle.rules.proofs.HeldKeys.{Showing, shows_in_key}
use Rattle.rules.proofs.Better as Over
use Rattle.rules.proofs.TableRules.{lawful, table_meets_law, sets_meet_law}
use Rattle.promises.proofs.Better.{op_of, after_op_law, count_after, after_count, ops_of, worse_run, shows_run, keys_run_law, spoilt_shows}
use Rattle.promises.proofs.Calls.{FieldAt, after_all}

-- an element of a mapped list
pub map_at : {A B : Type 0} (g : A → B) (xs : List A) (i : ℕ) (x : A) → get_elem? xs i ≡ some x → get_elem? (map g xs) i ≡ some (g x)
map_at g [] i x h = none_some refl h
map_at g (y ∷ ys) zero x h = let e : y ≡ x = cc in ap (λ z. some (g z)) e
map_at g (y ∷ ys) (suc i) x h = map_at g ys i x h

-- ---- a reception as one of the family's

pub after_run : (c : Content) (ops : List Operation) → (after_all c ops).sets ≡ run linkage c.sets (ops_of c.blocks ops)
unfolding after_all run ops_of
after_run c [] = refl
after_run c (o ∷ os) = after_run (after_one c o) os ∙ ap₂ (λ (n : ℕ) (e : Entries). run linkage e (ops_of n os)) (after_count c o) (after_op_law c o)

take_ops : (n : ℕ) (m : ℕ) (ops : List Operation) → ops_of m (take n ops) ≡ take n (ops_of m ops)
unfolding ops_of
take_ops zero m ops = refl
take_ops (suc n) m [] = refl
take_ops (suc n) m (o ∷ os) = ap (◌∷◌ (op_of (next_block m) o)) (take_ops n (count_after m o) os)

pub cut_run : (c : Content) (n : ℕ) (ops : List Operation) → (after_all c (take n ops)).sets ≡ run linkage c.sets (take n (ops_of c.blocks ops))
cut_run c n ops = after_run c (take n ops) ∙ ap (run linkage c.sets) (take_ops n c.blocks ops)

-- ---- a reception cut after an operation

-- what comes to be shown before the cut comes to be shown
pub shows_cut : (c : Content) (ops : List Operation) (i j : ℕ) (s : Shown) → ShowsAt c (take (suc i) ops) i j s → ShowsAt c ops i j s
unfolding ShowsAt
shows_cut c [] i j s sh = absurd sh
shows_cut c (o ∷ os) zero j s sh = sh
shows_cut c (o ∷ os) (suc i) j s sh = shows_cut (after_one c o) os i j s sh

-- the key of a set that comes to be shown at a field is that field's
pub shown_key : (c : Content) (ops : List Operation) (i j : ℕ) (s : Shown) (f : Field) → ShowsAt c ops i j s → FieldAt ops i j f → s.key ≡ key_of f
unfolding ShowsAt said_by fields_in said
shown_key c [] i j s f sh x = absurd sh
shown_key c (o ∷ os) (suc i) j s f sh x =
    shown_key (after_one c o) os i j s f sh
    (record { bytes = x.bytes; fields = x.fields; arrives = x.arrives; judged = x.judged; found = x.found })
shown_key c (o ∷ os) zero j s f sh x =
    let a = x.arrives in
    let q : o ≡ block x.bytes = cc in
    let n = next_block c.blocks in
    let e : said_by n o ≡ map (said n) x.fields = ap (said_by n) q ∙ ap (fields_in n) x.judged in
    shows_in_key linkage lawful c.sets (said_by n o) j s.key s.on s.set (said n f) sh
    (ap (λ (gs : List (Said linkage)). get_elem? gs j) e ∙ map_at (said n) x.fields j f x.found)

-- after an operation at a field of which a set came to be shown, one is shown under its key
pub showing_after : (c : Content) (ops : List Operation) (i j : ℕ) (s : Shown) → ShowsAt c ops i j s
    → Showing linkage (find linkage s.key (after_all c (take (suc i) ops)).sets)
showing_after c ops i j s sh =
    rw (cut_run c (suc i) ops) (Over.showing_run linkage lawful c.sets (ops_of c.blocks ops) i j s.key s.on s.set (rw (shows_run c ops i j s) at sh))

-- ---- both receptions

-- an operation at a field of which the worse one came to show a set is the same in both
pub same_operation : {better worse : List Operation} → Worse better worse → (w : Content) (i j : ℕ) (s : Shown) → ShowsAt w worse i j s
    → get_elem? better i ≡ get_elem? worse i
unfolding ShowsAt
same_operation over w i j s sh = absurd sh
same_operation (same o r) w zero j s sh = refl
same_operation (same o r) w (suc i) j s sh = same_operation r (after_one w o) i j s sh
same_operation (spoilt b c lb lc ch r) w zero j s sh = absurd (spoilt_shows c w j s.key s.on s.set lc ch sh)
same_operation (spoilt b c lb lc ch r) w (suc i) j s sh = same_operation r (after_one w (block c)) i j s sh

-- from one content that meets the rules, with room: both receptions, cut after an operation at a field of which the worse one came to
-- show a set, then hold the same of that set's key
pub better_found : (c : Content) (better worse : List Operation) → meets c ≡ true → Worse better worse → key_count c better ≤ most_keys
    → (i j : ℕ) (s : Shown) → ShowsAt c worse i j s
    → find linkage s.key (after_all c (take (suc i) better)).sets ≡ find linkage s.key (after_all c (take (suc i) worse)).sets
better_found c better worse m r n i j s sh =
    rw (cut_run c (suc i) better) (rw (cut_run c (suc i) worse)
    (Over.better_found linkage lawful c.sets (ops_of c.blocks better) (ops_of c.blocks worse) ((table_meets_law c.sets).0 (sets_meet_law c m)).ascend (worse_run c.blocks r)
    (rw (keys_run_law c c.blocks better) at n) i j s.key s.on s.set (rw (shows_run c worse i j s) at sh)))
