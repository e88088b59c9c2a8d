-- The table rules of a family taken apart, put together again and kept. In this order: items that differ; what the tests of the rules
-- mean; stamps; each rule in its parts, of a list, an entry, ascending keys, a table; fields, refused blocks, forgettings and runs keep the rules.
use Prim.Native.Nat.{◌≤◌}
use native.Mathlib.Omega.{arith}
use mathlib.Core.Path.{◌≡◌, refl}
use mathlib.Core.Logic.{◌↔◌}
use mathlib.Core.Bool.{Bool, true, false, not}
use mathlib.Core.List.{List, [], ◌∷◌, ◌++◌}
use mathlib.Core.Option.{Option, none, some}
use lib.ListN.{length}
use lib.Dec.{leb}
use borrow.Author.Tests.{leb-true, le-leb}
use Rattle.rules.specs.declared.Note.{Note}
use Rattle.rules.specs.Family.{Family, Listed, Act, start, continuation, no_list, drops, Said, Entry, member, extended, entry_with, started, continued, on_held, fresh, on_unheld, kept, effect, steps, closed, drop_open, forget, items_differ, Rules, maybe_meets, held_meets, all_meet, goes_up, table_meets}
use Rattle.rules.specs.Receptions.{held_keys, Op, takes, refuses, ignores, forgets, after_op}
use Rattle.rules.proofs.Basics.{and_left, and_right, and_both, and_three, and_four, not-true, true_not, cond_both, Every, every_imp, Within, within_imp}
use Rattle.rules.proofs.FamilyLaws.{Lawful, Different, After, Ascends, Keeps, Lists, Brings, keeps_key, after_through, different_first, every_steps, every_forget, every_drop_open, lists_keep, lists_closed, room_steps, length_drop_open, length_forget, ascends_steps, ascends_drop_open, ascends_forget}
use Rattle.rules.proofs.Runs.{InFields, run}

-- ---- items that differ

pub items_differ_law : (F : Family) (xs : List F.Item) → (items_differ F xs ≡ true) ↔ Different F xs
items_differ_law F [] = (λ h. tt, λ h. refl)
items_differ_law F (x ∷ xs) = (
  λ h. (
    not-true (member F x xs) (and_left (not (member F x xs)) (items_differ F xs) h),
    (items_differ_law F xs).0 (and_right (not (member F x xs)) (items_differ F xs) h),
  ),
  λ h. and_both (not (member F x xs)) (items_differ F xs) (true_not (member F x xs) h.0) ((items_differ_law F xs).1 h.1),
)

module _ (F : Family) (L : Lawful F) where
  open F use {Item}

  -- an item in the middle is not among those before it
  pub items_before : (xs : List Item) (y : Item) (ys : List Item) → items_differ F (xs ++ y ∷ ys) ≡ true → member F y xs ≡ false
  items_before xs y ys h = different_first F L xs y ys ((items_differ_law F (xs ++ y ∷ ys)).0 h)

-- three things said of what an option holds, said together
pub within_three : {A : Type 0} (P Q S : A → Type 0) (o : Option A) → Within P o → Within Q o → Within S o → Within (λ x. P x × Q x × S x) o
within_three P Q S none p q s = tt
within_three P Q S (some x) p q s = (p, q, s)

-- ---- what the tests mean

-- what is known of a key, of a list and of a stamp that pass; a new key's stamp passes; a key that passes may be the first
pub record Means (F : Family) (R : Rules F) : Type 1 where
  pub KeyIs : F.Key → Type 0
  pub ListIs : F.Key → Listed F → Type 0
  pub StampIs : Option (Listed F) → F.Stamp → Type 0
  pub key_is : (k : F.Key) → (R.key_meets k ≡ true) ↔ KeyIs k
  pub list_is : (k : F.Key) (l : Listed F) → (R.list_meets k l ≡ true) ↔ ListIs k l
  pub stamp_is : (o : Option (Listed F)) (p : F.Stamp) → (R.stamp_meets o p ≡ true) ↔ StampIs o p
  pub unstamped_is : StampIs none F.unstamped
  pub may_begin_law : (k : F.Key) → KeyIs k → R.begins k ≡ true

-- ---- stamps

-- what is known of a stamp beside what is shown, and of a new key's, is kept by a field whose stamp has it beside any set
module _ (F : Family) (Q : Option (Listed F) → F.Stamp → Type 0) (fresh-is : Q none F.unstamped) where
  stamp_started : (e : Entry F) (s : F.State) (p : F.Stamp) (l : Listed F) (d : Option (Listed F)) → Q e.shown e.stamp
      → ((l : Listed F) → Q (some l) p) → Q (started F e s p l d).0.shown (started F e s p l d).0.stamp
  unfolding started entry_with
  stamp_started e s p l none h q = h
  stamp_started e s p l (some d) h q = q d

  stamp_continued : (e : Entry F) (s : F.State) (l : Listed F) (d : Option (Listed F)) → Q e.shown e.stamp
      → Q (continued F e s l d).0.shown (continued F e s l d).0.stamp
  unfolding continued entry_with
  stamp_continued e s l none h = h
  stamp_continued e s l (some d) h =
      cond_both (λ (r : Entry F × Note). Q r.0.shown r.0.stamp) (leb (length (extended F d l).items) F.most) _ _ h h

  stamp_held : (e : Entry F) (s : F.State) (p : F.Stamp) (a : Act F) → Q e.shown e.stamp
      → ((l : Listed F) → Q (some l) p) → Q (on_held F e s p a).0.shown (on_held F e s p a).0.stamp
  unfolding on_held entry_with
  stamp_held e s p (start l) h q = stamp_started e s p l e.draft h q
  stamp_held e s p (continuation l) h q = stamp_continued e s l e.draft h
  stamp_held e s p no_list h q = h
  stamp_held e s p drops h q = h

  stamp_unheld : (r : Bool) (k : F.Key) (s : F.State) (a : Act F) → Within (λ e. Q e.shown e.stamp) (on_unheld F r k s a).0
  unfolding on_unheld fresh
  stamp_unheld true k s (start l) = fresh-is
  stamp_unheld false k s (start l) = tt
  stamp_unheld r k s (continuation l) = tt
  stamp_unheld r k s no_list = tt
  stamp_unheld r k s drops = tt

  pub stamp_keeps : (f : Said F) → ((l : Listed F) → Q (some l) f.stamp) → Keeps F (λ e. Q e.shown e.stamp) f
  unfolding effect kept
  stamp_keeps f q r none w h = stamp_unheld r f.key f.state f.act
  stamp_keeps f q r (some e) w h = stamp_held e f.state f.stamp f.act h q

-- ---- the rules in their parts

module _ (F : Family) (R : Rules F) (M : Means F R) where
  pub maybe_meets_law : (k : F.Key) (o : Option (Listed F)) → (maybe_meets F R k o ≡ true) ↔ Within (M.ListIs k) o
  maybe_meets_law k none = (λ h. tt, λ h. refl)
  maybe_meets_law k (some l) = M.list_is k l

  -- an entry: its key, its lists and its stamp
  abbrev pub HeldMeets : Entry F → Type 0
  HeldMeets e = M.KeyIs e.key × Lists F M.ListIs e × M.StampIs e.shown e.stamp

  pub held_meets_law : (e : Entry F) → (held_meets F R e ≡ true) ↔ HeldMeets e
  unfolding held_meets
  held_meets_law e =
      let a = and_four (R.stamp_meets e.shown e.stamp) (R.key_meets e.key) (maybe_meets F R e.key e.shown)
      (maybe_meets F R e.key e.draft) in (
        λ h. let t = a.0 h in (
          (M.key_is e.key).0 t.1,
          ((maybe_meets_law e.key e.shown).0 t.2, (maybe_meets_law e.key e.draft).0 t.3),
          (M.stamp_is e.shown e.stamp).0 t.0,
        ),
        λ m. a.1 (
          (M.stamp_is e.shown e.stamp).1 m.2,
          (M.key_is e.key).1 m.0,
          (maybe_meets_law e.key e.shown).1 m.1.0,
          (maybe_meets_law e.key e.draft).1 m.1.1,
        ),
      )

  pub all_meet_law : (t : List (Entry F)) → (all_meet F R t ≡ true) ↔ Every HeldMeets t
  all_meet_law [] = (λ h. tt, λ h. refl)
  all_meet_law (e ∷ es) = (
    λ h. ((held_meets_law e).0 (and_left (held_meets F R e) (all_meet F R es) h), (all_meet_law es).0 (and_right (held_meets F R e) (all_meet F R es) h)),
    λ m. and_both (held_meets F R e) (all_meet F R es) ((held_meets_law e).1 m.0) ((all_meet_law es).1 m.1),
  )

  -- a table
  pub record TableMeets (t : List (Entry F)) : Type 0 where
    pub few : length t ≤ F.room
    pub ascend : Ascends F (held_keys F t)
    pub entries : Every HeldMeets t

  -- a field whose key passes, whose lists do, and whose stamp does beside any set
  abbrev pub FieldMeets : Said F → Type 0
  FieldMeets f = M.KeyIs f.key × Brings F M.ListIs f.key f.act × ((l : Listed F) → M.StampIs (some l) f.stamp)

  -- such a field keeps the rules of every entry
  pub field_keeps : (f : Said F) → FieldMeets f → Keeps F HeldMeets f
  field_keeps f h r o w m =
      within_three (λ e. M.KeyIs e.key) (Lists F M.ListIs) (λ e. M.StampIs e.shown e.stamp) (effect F r f o).0
      (keeps_key F M.KeyIs f h.0 r o w (within_imp HeldMeets (λ e. M.KeyIs e.key) (λ e x. x.0) o m))
      (lists_keep F M.ListIs f h.1 r o w (within_imp HeldMeets (Lists F M.ListIs) (λ e x. x.1) o m))
      (stamp_keeps F M.StampIs M.unstamped_is f h.2 r o w (within_imp HeldMeets (λ e. M.StampIs e.shown e.stamp) (λ e x. x.2) o m))

module _ (F : Family) (L : Lawful F) where
  open F use {Key, key_before}

  -- ascending keys, all above one
  pub up_after : (k : Key) (t : List (Entry F)) → (goes_up F (key_before k) t ≡ true) ↔ (After F k (held_keys F t) × Ascends F (held_keys F t))
  up_after k [] = (λ h. (tt, tt), λ h. refl)
  up_after k (e ∷ es) = (
    λ h.
        let b = and_left (key_before k e.key) (goes_up F (key_before e.key) es) h in
        let r = (up_after e.key es).0 (and_right (key_before k e.key) (goes_up F (key_before e.key) es) h) in
        ((b, after_through F L k e.key (held_keys F es) b r.0), r),
    λ m. and_both (key_before k e.key) (goes_up F (key_before e.key) es) m.0.0 ((up_after e.key es).1 m.1),
  )

  -- ascending keys, of which the first passes a test
  pub up_ascends : (asked : Key → Bool) (t : List (Entry F)) → goes_up F asked t ≡ true → Ascends F (held_keys F t)
  up_ascends asked [] h = tt
  up_ascends asked (e ∷ es) h = (up_after e.key es).0 (and_right (asked e.key) (goes_up F (key_before e.key) es) h)

  pub ascends_up : (asked : Key → Bool) (t : List (Entry F)) → Every (λ e. asked e.key ≡ true) t → Ascends F (held_keys F t)
      → goes_up F asked t ≡ true
  ascends_up asked [] p h = refl
  ascends_up asked (e ∷ es) p h = and_both (asked e.key) (goes_up F (key_before e.key) es) p.0 ((up_after e.key es).1 h)

module _ (F : Family) (L : Lawful F) (R : Rules F) (M : Means F R) where
  open F use {Key, room}

  pub table_means : (t : List (Entry F)) → (table_meets F R t ≡ true) ↔ TableMeets F R M t
  table_means t =
      let a = and_three (leb (length t) room) (goes_up F R.begins t) (all_meet F R t) in (
        λ h. let r = a.0 h in
            record { few = leb-true (length t) room r.0; ascend = up_ascends F L R.begins t r.1; entries = (all_meet_law F R M t).0 r.2 },
        λ m. a.1 (
          le-leb (length t) room m.few,
          ascends_up F L R.begins t
              (every_imp (HeldMeets F R M) (λ e. R.begins e.key ≡ true) (λ e h. M.may_begin_law e.key h.0) t m.entries) m.ascend,
          (all_meet_law F R M t).1 m.entries,
        ),
      )

  -- ---- the rules are kept

  pub table_steps : (t : List (Entry F)) (fs : List (Said F)) → Every (FieldMeets F R M) fs → TableMeets F R M t → TableMeets F R M (steps F t fs).0
  table_steps t fs g m =
      record {
        few = room_steps F t fs m.few;
        ascend = ascends_steps F L t fs m.ascend;
        entries =
            every_steps F L (HeldMeets F R M) t fs (every_imp (FieldMeets F R M) (Keeps F (HeldMeets F R M)) (field_keeps F R M) fs g) m.entries;
      }

  pub table_drop_open : (t : List (Entry F)) → TableMeets F R M t → TableMeets F R M (drop_open F t)
  unfolding closed entry_with
  table_drop_open t m =
      record {
        few = rw (length_drop_open F t) m.few;
        ascend = ascends_drop_open F L t m.ascend;
        entries = every_drop_open F (HeldMeets F R M) t (λ e h. (h.0, lists_closed F M.ListIs e h.1, h.2)) m.entries;
      }

  pub table_forget : (k : Key) (t : List (Entry F)) → TableMeets F R M t → TableMeets F R M (forget F k t)
  table_forget k t m =
      record {
        few = omega (arith, length_forget F k t, m.few);
        ascend = ascends_forget F L k t m.ascend;
        entries = every_forget F (HeldMeets F R M) k t m.entries;
      }

  -- rules that say no more: waits for R-3 (document 02), where sheets by the stricter rule still load
  pub table_through : (R' : Rules F) (M' : Means F R') → ((e : Entry F) → HeldMeets F R M e → HeldMeets F R' M' e) → (t : List (Entry F))
      → TableMeets F R M t → TableMeets F R' M' t
  table_through R' M' h t m = record { few = m.few; ascend = m.ascend; entries = every_imp (HeldMeets F R M) (HeldMeets F R' M') h t m.entries }

  -- kept through runs: waits for R-10 and R-11 (document 02)
  pub table_op : (t : List (Entry F)) (o : Op F) → InFields F (FieldMeets F R M) o → TableMeets F R M t → TableMeets F R M (after_op F t o)
  unfolding after_op
  table_op t (takes fs) g m = table_steps t fs g m
  table_op t refuses g m = table_drop_open t m
  table_op t ignores g m = m
  table_op t (forgets k) g m = table_forget k t m

  pub table_run : (t : List (Entry F)) (os : List (Op F)) → Every (InFields F (FieldMeets F R M)) os → TableMeets F R M t → TableMeets F R M (run F t os)
  unfolding run
  table_run t [] g m = m
  table_run t (o ∷ os) g m = table_run (after_op F t o) os g.1 (table_op t o g.0 m)
