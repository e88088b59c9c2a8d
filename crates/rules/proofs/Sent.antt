-- What a set that is sent in pieces does to a table, over a family: a start brings the first piece, a continuation each other one. In
-- this order: an entry after those of keys before its own; the list that pieces make; fields that send a set; a set of a new key, and of a
-- key that has an open list.
use Prim.Native.Nat.{◌≤◌, ◌<◌}
use native.Mathlib.Omega.{arith}
use mathlib.Core.Path.{◌≡◌, refl, sym, ap, ◌∙◌, subst}
use mathlib.Core.Bool.{true, false}
use mathlib.Core.List.{List, [], ◌∷◌, ◌++◌, append_assoc, append-nil}
use mathlib.Core.Option.{Option, none, some}
use lib.ListN.{length, length-append}
use borrow.Author.Tests.{lt-ltb, le-leb}
use Rattle.rules.specs.Family.{Family, Listed, start, continuation, Said, Entry, opening, extended, entry_with, started, continued, on_held, fresh, on_unheld, kept, effect, find, replace, insert, store, step, steps}
use Rattle.rules.proofs.Basics.{cases_bool, true-false, Every}
use Rattle.rules.proofs.FamilyLaws.{Lawful, Different, differ_sym, before_differ, find_past, find_here, different_left, added_all_new}

-- ---- an entry after those of keys before its own

-- every key of these entries comes before a key
abbrev pub KeysBefore : (F : Family) → F.Key → List (Entry F) → Type 0
KeysBefore F k t = Every (λ e. F.key_before e.key k ≡ true) t

module _ (F : Family) (L : Lawful F) where
  open F use {Key, same_key, key_before}

  pub before_other : (j k : Key) → key_before j k ≡ true → same_key k j ≡ false
  before_other j k h = differ_sym F L j k (before_differ F L j k h)

  pub before_not : (j k : Key) → key_before j k ≡ true → key_before k j ≡ false
  before_not j k h = cases_bool (key_before k j) (λ b. true-false (L.before_trans j k j h b) (L.before_self j)) (λ b. b)

  pub find_at : (k : Key) (e : Entry F) (pre post : List (Entry F)) → KeysBefore F k pre → e.key ≡ k → find F k (pre ++ e ∷ post) ≡ some e
  find_at k e [] post h i = find_here F L k e post (rw i (L.same_self k))
  find_at k e (x ∷ xs) post h i = find_past F L k x (xs ++ e ∷ post) (before_other x.key k h.0) ∙ find_at k e xs post h.1 i

  pub find_before : (k : Key) (t : List (Entry F)) → KeysBefore F k t → find F k t ≡ none
  find_before k [] h = unfold find in refl
  find_before k (x ∷ xs) h = find_past F L k x xs (before_other x.key k h.0) ∙ find_before k xs h.1

  pub replace_at : (d e : Entry F) (pre post : List (Entry F)) → KeysBefore F d.key pre → e.key ≡ d.key
      → replace F d (pre ++ e ∷ post) ≡ pre ++ d ∷ post
  unfolding replace
  replace_at d e [] post h i = rw i (rw (L.same_self d.key))
  replace_at d e (x ∷ xs) post h i = rw (before_other x.key d.key h.0) (ap (◌∷◌ x) (replace_at d e xs post h.1 i))

  pub insert_last : (e : Entry F) (t : List (Entry F)) → KeysBefore F e.key t → insert F e t ≡ t ++ e ∷ []
  unfolding insert
  insert_last e [] h = refl
  insert_last e (x ∷ xs) h = rw (before_not x.key e.key h.0) (ap (◌∷◌ x) (insert_last e xs h.1))

-- ---- pieces, and fields that send them

module _ (F : Family) where
  open F use {Key, Item, join, State, Stamp}

  -- a list with one more piece
  unfoldable pub with_piece : Listed F → Listed F → Listed F
  with_piece d c = record { items = d.items ++ c.items; named = join d.named c.named }

  -- with more, one after the other
  unfoldable pub with_pieces : Listed F → List (Listed F) → Listed F
  with_pieces d [] = d
  with_pieces d (c ∷ cs) = with_pieces (with_piece d c) cs

  pub pieces_grow : (d : Listed F) (cs : List (Listed F)) → (r : List Item) × ((with_pieces d cs).items ≡ d.items ++ r)
  unfolding with_pieces with_piece
  pieces_grow d [] = ([], sym (append-nil d.items))
  pieces_grow d (c ∷ cs) =
      let g = pieces_grow (with_piece d c) cs in
      (c.items ++ g.0, g.1 ∙ append_assoc d.items c.items g.0)

  -- fields of a key that bring these pieces as continuations, whatever their stamps
  abbrev pub Continue : Key → State → List (Listed F) → List (Said F) → Type 0
  Continue k s [] [] = Unit {0}
  Continue k s [] (f ∷ fs) = ⊥
  Continue k s (c ∷ cs) [] = ⊥
  Continue k s (c ∷ cs) (f ∷ fs) = ((f.key ≡ k) × (f.state ≡ s) × (f.act ≡ continuation c)) × Continue k s cs fs

  -- fields that send a set whole: a start with its first piece, and continuations with the others
  pub record Sends (k : Key) (s : State) (l : Listed F) (fs : List (Said F)) : Type 0 where
    pub first : Said F
    pub others : List (Said F)
    pub made : fs ≡ first ∷ others
    pub piece : Listed F
    pub pieces : List (Listed F)
    pub key : first.key ≡ k
    pub state : first.state ≡ s
    pub act : first.act ≡ start piece
    pub goes : Continue k s pieces others
    pub whole : with_pieces piece pieces ≡ l

  -- an entry with an open list
  abbrev pub open_entry : Key → State → Option (Listed F) → Listed F → Stamp → Entry F
  open_entry k s sh d p = record { key = k; state = s; shown = sh; draft = some d; stamp = p }

module _ (F : Family) (L : Lawful F) where
  open F use {Key, State, Stamp, unstamped, room, most}

  -- a continuation with items that differ from those of the open list and among themselves
  pub held_more : (k : Key) (b s : State) (sh : Option (Listed F)) (d c : Listed F) (p q : Stamp) → length (d.items ++ c.items) ≤ most
      → Different F (d.items ++ c.items)
      → (on_held F (open_entry F k b sh d p) s q (continuation c)).0 ≡ open_entry F k s sh (with_piece F d c) p
  unfolding on_held continued extended entry_with with_piece
  held_more k b s sh d c p q h g = rw (added_all_new F L d.items c.items g, le-leb (length (d.items ++ c.items)) most h)

  -- a start of a key with an open list
  pub held_start : (k : Key) (b s : State) (sh : Option (Listed F)) (d c : Listed F) (p q : Stamp) → Different F c.items
      → (on_held F (open_entry F k b sh d p) s q (start c)).0 ≡ open_entry F k s (some d) c q
  unfolding on_held started opening
  held_start k b s sh d c p q g = rw (added_all_new F L [] c.items g)

  -- a field of a held key
  pub step_held : (pre post : List (Entry F)) (f : Said F) (x d : Entry F) → KeysBefore F f.key pre → x.key ≡ f.key → d.key ≡ f.key
      → (on_held F x f.state f.stamp f.act).0 ≡ d → (step F (pre ++ x ∷ post) f).0 ≡ pre ++ d ∷ post
  unfolding step effect kept store
  step_held pre post f x d low i j g = rw (find_at F L f.key x pre post low i, g) (replace_at F L d x pre post (rw j low) (i ∙ sym j))

  module _ (k : Key) (s : State) (pre : List (Entry F)) (low : KeysBefore F k pre) where
    step_more : (post : List (Entry F)) (f : Said F) (c : Listed F) (b : State) (sh : Option (Listed F)) (d : Listed F) (p : Stamp)
        → f.key ≡ k → f.state ≡ s → f.act ≡ continuation c → length (d.items ++ c.items) ≤ most → Different F (d.items ++ c.items)
        → (step F (pre ++ open_entry F k b sh d p ∷ post) f).0 ≡ pre ++ open_entry F k s sh (with_piece F d c) p ∷ post
    step_more post f c b sh d p ek es ea h g =
        step_held pre post f (open_entry F k b sh d p) (open_entry F k s sh (with_piece F d c) p) (rw ek low) (sym ek) (sym ek)
        (rw (es, ea) (held_more k b s sh d c p f.stamp h g))

    step_start : (post : List (Entry F)) (f : Said F) (c : Listed F) (b : State) (sh : Option (Listed F)) (d : Listed F) (p : Stamp)
        → f.key ≡ k → f.state ≡ s → f.act ≡ start c → Different F c.items
        → (step F (pre ++ open_entry F k b sh d p ∷ post) f).0 ≡ pre ++ open_entry F k s (some d) c f.stamp ∷ post
    step_start post f c b sh d p ek es ea g =
        step_held pre post f (open_entry F k b sh d p) (open_entry F k s (some d) c f.stamp) (rw ek low) (sym ek) (sym ek)
        (rw (es, ea) (held_start k b s sh d c p f.stamp g))

    -- a start of a new key, where there is room
    step_new : (f : Said F) (c : Listed F) → f.key ≡ k → f.state ≡ s → f.act ≡ start c → length pre < room → Different F c.items
        → (step F pre f).0 ≡ pre ++ open_entry F k s none c unstamped ∷ []
    unfolding step effect on_unheld fresh store opening
    step_new f c ek es ea r g =
        rw (ek, es, ea, find_before F L k pre low, lt-ltb (length pre) room r, added_all_new F L [] c.items g)
        (insert_last F L (open_entry F k s none c unstamped) pre low)

    -- continuations, one after the other
    steps_more : (post : List (Entry F)) (cs : List (Listed F)) (fs : List (Said F)) (sh : Option (Listed F)) (d : Listed F) (p : Stamp)
        → Continue F k s cs fs → length (with_pieces F d cs).items ≤ most → Different F (with_pieces F d cs).items
        → (steps F (pre ++ open_entry F k s sh d p ∷ post) fs).0 ≡ pre ++ open_entry F k s sh (with_pieces F d cs) p ∷ post
    unfolding steps with_pieces
    steps_more post [] [] sh d p m h g = refl
    steps_more post [] (f ∷ fs) sh d p m h g = absurd m
    steps_more post (c ∷ cs) [] sh d p m h g = absurd m
    steps_more post (c ∷ cs) (f ∷ fs) sh d p m h g =
        let r = pieces_grow F (with_piece F d c) cs in
        let few : length (d.items ++ c.items) ≤ most =
        unfold with_piece in omega (arith, ap length r.1, length-append (d.items ++ c.items) r.0) in
        let differ : Different F (d.items ++ c.items) =
        unfold with_piece in different_left F (d.items ++ c.items) r.0 (subst (Different F) r.1 g) in
        ap (λ (t : List (Entry F)). (steps F t fs).0) (step_more post f c s sh d p m.0.0 m.0.1 m.0.2 few differ)
        ∙ steps_more post cs fs sh (with_piece F d c) p m.1 h g

    module _ (l : Listed F) (short : length l.items ≤ most) (differ : Different F l.items) (fs : List (Said F)) (sent : Sends F k s l fs) where
      first_differs : Different F sent.piece.items
      first_differs =
          let r = pieces_grow F sent.piece sent.pieces in
          different_left F sent.piece.items r.0 (subst (Different F) (sym (ap (λ (x : Listed F). x.items) sent.whole) ∙ r.1) differ)

      -- the fields after the start
      steps_rest : (post : List (Entry F)) (sh : Option (Listed F)) (p : Stamp)
          → (steps F (pre ++ open_entry F k s sh sent.piece p ∷ post) sent.others).0 ≡ pre ++ open_entry F k s sh l p ∷ post
      steps_rest post sh p =
          steps_more post sent.pieces sent.others sh sent.piece p sent.goes (rw sent.whole short) (rw sent.whole differ)
          ∙ ap (λ (x : Listed F). pre ++ open_entry F k s sh x p ∷ post) sent.whole

      -- a set of a new key: it is the open list, and nothing is shown
      pub sent_new : length pre < room → (steps F pre fs).0 ≡ pre ++ open_entry F k s none l unstamped ∷ []
      unfolding steps
      sent_new r =
          ap (λ (gs : List (Said F)). (steps F pre gs).0) sent.made
          ∙ ap (λ (t : List (Entry F)). (steps F t sent.others).0)
          (step_new sent.first sent.piece sent.key sent.state sent.act r first_differs)
          ∙ steps_rest [] none unstamped

      -- a set of a key with an open list: that list is shown, with the start's stamp, and the set is the open list
      pub sent_again : (post : List (Entry F)) (b : State) (sh : Option (Listed F)) (d : Listed F) (p : Stamp)
          → (steps F (pre ++ open_entry F k b sh d p ∷ post) fs).0 ≡ pre ++ open_entry F k s (some d) l sent.first.stamp ∷ post
      unfolding steps
      sent_again post b sh d p =
          ap (λ (gs : List (Said F)). (steps F (pre ++ open_entry F k b sh d p ∷ post) gs).0) sent.made
          ∙ ap (λ (t : List (Entry F)). (steps F t sent.others).0)
          (step_start post sent.first sent.piece b sh d p sent.key sent.state sent.act first_differs)
          ∙ steps_rest post (some d) sent.first.stamp
