-- What a field does to a stored table, as the code takes it: one of a held key; of a new key; one that changes nothing. Then a turn at
-- a field, and at a block, taken or refused.
use Prim.Native.Nat.{ℕ, ◌+◌, ◌-◌, ◌<◌, ◌≤◌, min}
use native.Mathlib.Omega.{arith}
use mathlib.Core.Path.{◌≡◌, refl, sym, ap, ap₂, ◌∙◌, subst}
use mathlib.Core.Bool.{Bool, true, false, not, cond, ◌&&◌, true≢false}
use mathlib.Core.List.{List, map}
use lib.ListN.{length-take, length-drop, length, get_or, set, take, drop, replicate}
use lib.Dec.{ltb, eqb}
use borrow.Author.Tests.{ltb-true, ltb-false, not-true}
use Rattle.rules.specs.Arrays.{padded}
use Rattle.rules.specs.Outcomes.{Verdict, verdict, taken, refused, no_block}
use Rattle.rules.proofs.LinkageLaws.{Refusal, full_refusal}
use Rattle.rules.specs.declared.Note.{Note}
use Rattle.rules.specs.declared.Note.TheVariants.{Opened, Full, UnknownKey}
use Rattle.rules.specs.Field.{Field as FieldOf, key_of}
use Rattle.rules.specs.Family.{Act, start, continuation, no_list, step, on_held, fresh, insert, opening, drop_open}
use Rattle.rules.specs.Receptions.{held_keys}
use Rattle.rules.specs.Collecting.{linkage, Held, Entries, Content, meets, with_sets, next_block, after_block, said, act_of, brings, if_there, sets_meet, shown_sets, most_keys}
use Rattle.rules.proofs.FamilyLaws.{Ascends, on_held_key}
use Rattle.rules.proofs.Basics.{cases_bool, and_left, and_right}
use Rattle.rules.proofs.TableRules.{table_rules, table_meets_law, sets_meet_law, entry_rules}
use Rattle.rules.proofs.Entries.{column_at}
use Rattle.field.specs.declared.Field.{Field}
use Rattle.field.specs.declared.FieldStep.TheVariants.{Found}
use Rattle.field.specs.FieldStep.{meaning, key_in, has_list_in, continues, field_step_at}
use Rattle.field.proofs.Laws.{field_step_at_range}
use Rattle.lists.specs.declared.IdList.{IdList}
use Rattle.lists.specs.Stored.{store_list, empty_list, store_maybe}
use Rattle.lists.specs.Grown.{with_field}
use Rattle.lists.proofs.GrownLaws.{with_none}
use Rattle.sets.specs.declared.Sets.{Sets}
use Rattle.totals.specs.declared.Totals.{Totals}
use Rattle.totals.specs.Totals.{sums, totals_of}
use Rattle.totals.specs.Kept.{exchanged_set}
use Rattle.totals.proofs.Laws.{sums_exchanged, sums_opened, shown_closed}
use Rattle.table.specs.declared.Table.{Table}
use Rattle.table.specs.Stored.{table_of, store_table}
use Rattle.sets.specs.Stored.{on_in, confirmed_in, shown_in, draft_in, store_sets, opened_sets, with_draft, past}
use Rattle.sets.specs.Stored as S
use Rattle.sets.specs.Places.{place_in}
use Rattle.sets.proofs.Entries.{no_entry, Here, entry_at_law}
use Rattle.sets.proofs.PlaceLaws.{stands, stands_not, place_at, count_of}
use Rattle.sets.proofs.StoreLaws.{set_at, store_set, store_closed}
use Rattle.block.specs.declared.Spots.{Spots}
use Rattle.std.specs.Prelude.{Result, Ok, Err, Option, unwrap_or}
use Rattle.std.specs.Result.{is_ok}
use Rattle.rules.specs.declared.Outcome.TheVariants.{Done}
use Rattle.block.specs.declared.Refused.{Refused}
use Rattle.block.specs.Judged.{field_in, no_spot, no_spots, outcome_of}
use Rattle.block.proofs.Meaning.{body_at, SpotsAre, JudgedAs, is_taken, is_refused, is_no_block}
use Rattle.reading.specs.declared.Reply.{Reply}
use Rattle.reading.specs.Steps.{ListStep, is_showing, stepped_as, HeldStep, confirmed_by, opens_in, unheld_note}
use Rattle.reading.specs.Runs.{reply_to, reply_with}
use Rattle.reading.proofs.HeldLaws.{act_none, act_more, act_start}
use Rattle.reading.proofs.StepLaws.{at', step_here, step_new, step_full, step_unknown_more, step_unknown_none, store_new, held_state, held_shown, held_number}
use Rattle.reading.proofs.RunLaws.{Going, field_now, spot_now, good_now, few_fields, few_full, going_next, going_taken, going_refused, step_meets}

-- ---- a turn at a field

-- a table and a note as a step of the rules leaves them, where it keeps the table rules
abbrev pub Did : Content → FieldOf → Table → Note → Type 0
Did c g t m =
    meets (with_sets c (step linkage c.sets (said c.blocks g)).0) ≡ true
    → (t ≡ store_table (with_sets c (step linkage c.sets (said c.blocks g)).0)) × (m ≡ (step linkage c.sets (said c.blocks g)).1)

did : (c : Content) (g : FieldOf) (t : Table) (m m' : Note) (c' : Entries) → step linkage c.sets (said c.blocks g) ≡ (c', m')
    → (meets (with_sets c c') ≡ true → t ≡ store_table (with_sets c c')) → m ≡ m' → Did c g t m
did c g t m m' c' e s q r = (
  s (subst (λ (x : Entries × Note). meets (with_sets c x.0) ≡ true) e r) ∙ ap (λ (x : Entries × Note). store_table (with_sets c x.0)) (sym e),
  q ∙ ap (λ (x : Entries × Note). x.1) (sym e),
)

module _ (t : Table) (now' : Content) (now_meets : meets now' ≡ true) (stored : t ≡ store_table now') where
  pub table_short : t.sets.count ≤ most_keys
  table_short = omega (arith, count_of t.sets now'.sets (ap (λ (u : Table). u.sets) stored), ((table_rules now'.sets).0 (sets_meet_law now' now_meets)).short)

  pub place_short : (p k : ℕ) → (ltb p t.sets.count && eqb (get_or t.sets.keys p 0) k) ≡ true → p < most_keys
  place_short p k b = omega (arith, table_short, ltb-true p t.sets.count (and_left (ltb p t.sets.count) _ b))

module _ (t : Table) (now' : Content) (now_meets : meets now' ≡ true) (stored : t ≡ store_table now') (body : List ℕ) (f : Field) (at_place next : ℕ)
    (found : field_step_at body at_place ≡ Found f next) (reserved : f.qualifier ≡ 2 → ⊥) (key : ℕ) (ke : key ≡ key_in f) (p : ℕ)
    (p-is : p ≡ place_in (take t.sets.count t.sets.keys) key) where
  g : FieldOf
  g = meaning body f

  c : Entries
  c = now'.sets

  -- the number of the present block
  n : ℕ
  n = now'.blocks

  blocks_are : t.blocks ≡ n
  unfolding n
  blocks_are = ap (λ (u : Table). u.blocks) stored

  c_meets : sets_meet c ≡ true
  unfolding c
  c_meets = sets_meet_law now' now_meets

  sets_are : t.sets ≡ store_sets c
  unfolding c
  sets_are = ap (λ (u : Table). u.sets) stored

  totals_are : t.totals ≡ sums (shown_sets c)
  unfolding c totals_of
  totals_are = ap (λ (u : Table). u.totals) stored

  means : meaning body f ≡ g
  unfolding g
  means = refl

  la_is : eqb f.la 1 ≡ eqb g.la 1
  unfolding meaning
  la_is = ap (λ (x : FieldOf). eqb x.la 1) means

  key_is : key ≡ key_of g
  unfolding meaning key_of
  key_is = ke ∙ ap key_of means

  -- the key stands at its place, or nowhere
  here : (ltb p t.sets.count && eqb (get_or t.sets.keys p 0) key) ≡ true → Here c (key_of g)
  unfolding c
  here b =
      subst (Here c) key_is
      (stands t.sets c sets_are p key p-is b)

  nowhere : (ltb p t.sets.count && eqb (get_or t.sets.keys p 0) key) ≡ false → Here c (key_of g) → ⊥
  unfolding c
  nowhere b there =
      stands_not t.sets c sets_are p key p-is b (subst (Here c) (sym key_is) there)

  place : p ≡ place_in (map S.key_in c) (key_of g)
  unfolding c
  place = p-is ∙ place_at t.sets c sets_are key ∙ ap (place_in (map S.key_in c)) key_is

  -- ---- a held key

  module _ (b : (ltb p t.sets.count && eqb (get_or t.sets.keys p 0) key) ≡ true) (r : ListStep)
      (held : HeldStep body f (get_or t.sets.draft p past) r) where
    j : ℕ
    j = place_in (map S.key_in c) (key_of g)

    within : j < length c
    unfolding j
    within = (here b).0

    x : Held
    x = at' c (key_of g)

    column : {B : Type 0} (v : Held → B) (d e : B) (ys : Sets → List B) → ys (store_sets c) ≡ padded most_keys d (map v c) → get_or (ys t.sets) p e ≡ v x
    unfolding c j x
    column v d e ys q =
        ap₂ (λ (u : Sets) (k : ℕ). get_or (ys u) k e) sets_are place ∙ ap (λ (l : List _). get_or l j e) q ∙ column_at v most_keys d c j e no_entry within

    shown_is : get_or t.sets.shown p past ≡ store_maybe x.shown
    unfolding store_sets shown_in
    shown_is = column shown_in empty_list past (λ u. u.shown) refl

    on_is : get_or t.sets.on p false ≡ x.state
    unfolding store_sets on_in
    on_is = column on_in false false (λ u. u.on) refl

    draft_is : get_or t.sets.draft p past ≡ store_maybe x.draft
    unfolding store_sets draft_in
    draft_is = column draft_in empty_list past (λ u. u.draft) refl

    numbered : get_or t.sets.confirmed p 0 ≡ x.stamp
    unfolding store_sets confirmed_in
    numbered = column confirmed_in 0 0 (λ u. u.confirmed) refl

    draft_meets : if_there x.key x.draft ≡ true
    unfolding c j x
    draft_meets = ((entry_rules _).0 (entry_at_law c ((table_rules c).0 c_meets).entries j within)).draft

    after : Held × Note
    after = on_held linkage x (eqb g.la 1) n (act_of g)

    result : r ≡ stepped_as after
    unfolding HeldStep after
    result =
        held x (eqb g.la 1) n at_place next found reserved draft_meets draft_is
        ∙ ap (λ (y : FieldOf). stepped_as (on_held linkage x (eqb g.la 1) n (act_of y))) means

    -- what is shown then: the list that was open, or the set as it was
    shows_is : r.shows ≡ is_showing after.1
    unfolding stepped_as
    shows_is = ap (λ (y : ListStep). y.shows) result

    shown_then : store_maybe after.0.shown ≡ store_maybe (cond r.shows x.draft x.shown)
    unfolding after
    shown_then =
        ap store_maybe (held_shown x (eqb g.la 1) n (act_of g))
        ∙ ap (λ (b : Bool). store_maybe (cond b x.draft x.shown)) (sym shows_is)

    state_is : eqb f.la 1 ≡ after.0.state
    unfolding after
    state_is = la_is ∙ sym (held_state x (eqb g.la 1) n (act_of g))

    -- its number then: the block's where the list that was open is shown
    abbrev Confirms : ℕ → Type 0
    Confirms m = m ≡ confirmed_by r.note (get_or t.sets.confirmed p 0) t.blocks

    number_is : (m : ℕ) → Confirms m → m ≡ after.0.stamp
    unfolding after stepped_as
    number_is m q =
        q ∙ (λ k. confirmed_by (result k).note (numbered k) (blocks_are k)) ∙ sym (held_number x (eqb g.la 1) n (act_of g))

    stored_is : (m : ℕ) → Confirms m → (shown : IdList) → shown ≡ store_maybe after.0.shown
        → set_at t.sets p (eqb f.la 1) m shown r.draft ≡ store_sets (set c j after.0)
    unfolding j x after stepped_as
    stored_is m q shown e =
        (λ k. set_at (sets_are k) (place k) (state_is k) (number_is m q k) (e k) (result k).draft)
        ∙ sym (store_set c j after.0 within (on_held_key linkage x (eqb g.la 1) n (act_of g)))

    -- the totals by what changes: the set that was shown, and the one that is
    abbrev Exchanged : IdList → Totals → Type 0
    Exchanged shown m = m ≡ exchanged_set t.totals (get_or t.sets.shown p past).len (get_or t.sets.on p false) shown.len (eqb f.la 1)

    counted_is : meets (with_sets now' (set c j after.0)) ≡ true → (shown : IdList) → shown ≡ store_maybe after.0.shown → (u : Totals) → Exchanged shown u → u ≡ sums (shown_sets (set c j after.0))
    unfolding c j x
    counted_is m shown e u q =
        q ∙ (λ k. exchanged_set (totals_are k) (shown_is k).len (on_is k) (e k).len (state_is k))
        ∙ sums_exchanged c c_meets j within after.0 (sets_meet_law (with_sets now' (set c j after.0)) m)

    turn_with : (shown : IdList) → shown ≡ store_maybe after.0.shown → (m : ℕ) → Confirms m → (u : Totals) → Exchanged shown u
        → Did now' g (table_of (set_at t.sets p (eqb f.la 1) m shown r.draft) u t.blocks) r.note
    unfolding c g j x n after stepped_as totals_of
    turn_with shown e m w u v =
        did now' g _ r.note after.1 (set c j after.0) (step_here n c g (here b)) (λ meet. (λ k. table_of (stored_is m w shown e k) (counted_is meet shown e u v k) (blocks_are k)))
        (ap (λ (y : ListStep). y.note) result)

    shown_or : (b : Bool) → cond b (get_or t.sets.draft p past) (get_or t.sets.shown p past) ≡ store_maybe (cond b x.draft x.shown)
    shown_or true = draft_is
    shown_or false = shown_is

    pub turn_held : (shown : IdList) → shown ≡ cond r.shows (get_or t.sets.draft p past) (get_or t.sets.shown p past) → (m : ℕ) → Confirms m
        → (u : Totals) → Exchanged shown u → Did now' (meaning body f) (table_of (set_at t.sets p (eqb f.la 1) m shown r.draft) u t.blocks) r.note
    unfolding g
    turn_held shown e m w u v = turn_with shown (e ∙ shown_or r.shows ∙ sym shown_then) m w u v

  -- ---- a key that is not held

  module _ (b : (ltb p t.sets.count && eqb (get_or t.sets.keys p 0) key) ≡ false) where
    ascending : Ascends linkage (held_keys linkage c)
    unfolding c
    ascending = ((table_meets_law c).0 c_meets).ascend

    count_is : t.sets.count ≡ length c
    unfolding c
    count_is = count_of t.sets c sets_are

    act_is : (a : Act linkage) (k : FieldOf → Act linkage) → act_of (meaning body f) ≡ k (meaning body f) → act_of g ≡ k g
    act_is a k e = subst (λ (y : FieldOf). act_of y ≡ k y) means e

    -- a start, and room
    pub turn_new : opens_in f t.sets.count ≡ true → ((i : ℕ) → get_or body i 0 < 256) → (t' : Sets) → t' ≡ opened_sets t.sets p key (eqb f.la 1) (unwrap_or (with_field empty_list body f) empty_list)
        → Did now' (meaning body f) (table_of t' t.totals t.blocks) Opened
    unfolding c g n opens_in fresh totals_of
    turn_new open' b256 t' te =
        let has : has_list_in f ≡ true = and_left (has_list_in f) _ (and_left (has_list_in f && not (continues f)) _ open') in
        let starts : continues f ≡ false = not-true (continues f) (and_right (has_list_in f) _ (and_left (has_list_in f && not (continues f)) _ open')) in
        let few : length c < most_keys = subst (λ (n : ℕ). n < most_keys) count_is (ltb-true t.sets.count most_keys (and_right (has_list_in f && not (continues f)) _ open')) in
        let act : act_of g ≡ start (brings g) = act_is no_list (λ y. start (brings y)) (act_start body f has starts) in
        let list' : unwrap_or (with_field empty_list body f) empty_list ≡ store_list (opening linkage (brings g)) =
        ap (λ (x : Option IdList). unwrap_or x empty_list) (with_none body f (field_step_at_range body at_place f next b256 found).field reserved)
        ∙ ap (λ (y : FieldOf). store_list (opening linkage (brings y))) means in
        let new = fresh linkage (key_of g) (eqb g.la 1) (brings g) in
        did now' g (table_of t' t.totals t.blocks) Opened Opened (insert linkage new c)
        (step_new n c g ascending (nowhere b) act few)
        (λ _.
        let ss = te ∙ (λ k. opened_sets (sets_are k) p (key_is k) (la_is k) (list' k)) ∙ sym (store_new c (key_of g) p (eqb g.la 1) (brings g) (nowhere b) place few) in
        let ns = totals_are ∙ sym (sums_opened c new refl (nowhere b)) in
        λ k. table_of (ss k) (ns k) (blocks_are k))
        refl

    -- anything else changes nothing
    same : (m : Note) → step linkage c (said n g) ≡ (c, m) → (m' : Note) → m' ≡ m → Did now' g t m'
    unfolding c g n
    same m e m' q = did now' g t m' m c e (λ _. stored) q

    pub turn_same : opens_in f t.sets.count ≡ false → (m : Note) → m ≡ unheld_note f → Did now' (meaning body f) t m
    unfolding g opens_in unheld_note
    turn_same shut' m ne =
        cases_bool (has_list_in f)
        (λ has. cases_bool (continues f)
        (λ more. same UnknownKey (step_unknown_more n c g ascending (nowhere b) (act_is no_list (λ y. continuation (brings y)) (act_more body f has more))) m
        (ne ∙ rw (has, more)))
        (λ starts.
        let full : most_keys ≤ length c = subst (λ (k : ℕ). most_keys ≤ k) count_is (ltb-false t.sets.count most_keys (rw (has, starts) at shut')) in
        same Full (step_full n c g ascending (nowhere b) (act_is no_list (λ y. start (brings y)) (act_start body f has starts)) full) m
        (ne ∙ rw (has, starts))))
        (λ has. same UnknownKey (step_unknown_none n c g ascending (nowhere b) (act_is no_list (λ y. no_list) (act_none body f has))) m
        (ne ∙ rw has))

-- ---- a turn at a field

-- a field is found in a body, and the rules take it into a content
pub record Facts (c : Content) (body : List ℕ) (f : Field) : Type 0 where
  pub place : ℕ
  pub next : ℕ
  pub found : field_step_at body place ≡ Found f next
  pub reserved : f.qualifier ≡ 2 → ⊥
  pub rules : meets (with_sets c (step linkage c.sets (said c.blocks (meaning body f))).0) ≡ true

-- what keeps the loop's indices within

pub record Fits' (bytes : List ℕ) (reply : Reply) (spots : Spots) (i : ℕ) : Type 0 where
  pub ordered : (get_or spots.spots i no_spot).start ≤ (get_or spots.spots i no_spot).end
  pub inside : (get_or spots.spots i no_spot).end ≤ 30
  pub few : i < 14
  pub full : reply.full < length bytes

module _ (bytes : List ℕ) (t₀ t : Table) (reply : Reply) (spots : Spots) (from at i : ℕ) (G : Going bytes t₀ t reply spots from at i) (h : i < spots.count) where
  pub fits_now : Fits' bytes reply spots i
  fits_now =
      let s = spot_now bytes t₀ t reply spots from at i G h in
      record { ordered = s.ordered; inside = s.inside; few = few_fields bytes t₀ t reply spots from at i G h; full = few_full bytes t₀ t reply spots from at i G h }

  module _ (body : List ℕ) (body_is : body ≡ body_at (take 32 (drop from bytes)) (get_or spots.spots i no_spot)) (f : Field) (f-is : f ≡ field_in body (get_or spots.spots i no_spot).place) where
    -- the present field is found in its body, and the rules take it
    pub going_facts : Facts G.now' body f
    unfolding meaning
    going_facts =
        let spot = spot_now bytes t₀ t reply spots from at i G h in
        let good = good_now bytes t₀ t reply spots from at i G h in
        let g = field_now bytes t₀ t reply spots from at i G in
        let place = (get_or spots.spots i no_spot).place in
        let means : meaning body f ≡ g = ap (meaning body) f-is ∙ ap (λ (b : List ℕ). meaning b (field_in b place)) body_is ∙ spot.means in
        record {
          place = place;
          next = spot.found.0;
          found =
              ap (λ (b : List ℕ). field_step_at b place) body_is ∙ spot.found.1
              ∙ ap (λ (y : Field). Found y spot.found.0) (sym (f-is ∙ ap (λ (b : List ℕ). field_in b place) body_is));
          reserved = λ q. good.reserved (sym (ap (λ (x : FieldOf). x.qualifier) means) ∙ q);
          rules =
              let m = step linkage G.now'.sets (said G.now'.blocks g) in
              subst (λ (x : FieldOf). meets (with_sets G.now' (step linkage G.now'.sets (said G.now'.blocks x)).0) ≡ true) (sym means) (step_meets G.now' m.0 m.1 g good G.now_meets refl);
        }

    -- a turn at it, as the rules take it
    pub going_took : (t' : Table) (m : Note) → (t' ≡ store_table (with_sets G.now' (step linkage G.now'.sets (said G.now'.blocks (meaning body f))).0)) → m ≡ (step linkage G.now'.sets (said G.now'.blocks (meaning body f))).1
        → (reply' : Reply) → reply' ≡ reply_with reply i m → Going bytes t₀ t' reply' spots from at (i + 1)
    going_took t' m te me reply' q =
        let spot = spot_now bytes t₀ t reply spots from at i G h in
        let g = field_now bytes t₀ t reply spots from at i G in
        let place = (get_or spots.spots i no_spot).place in
        let means : meaning body f ≡ g = ap (meaning body) f-is ∙ ap (λ (b : List ℕ). meaning b (field_in b place)) body_is ∙ spot.means in
        let after = step linkage G.now'.sets (said G.now'.blocks (meaning body f)) in
        going_next bytes t₀ t reply spots from at i G h t' reply' after.1 after.0 (ap (λ (x : FieldOf). step linkage G.now'.sets (said G.now'.blocks x)) (sym means)) te (q ∙ ap (reply_with reply i) me)

-- ---- what a judged block says, taken or refused

spots_in : Result Spots Refused → Spots → Spots
spots_in (Ok s) d = s
spots_in (Err r) d = d

refused_in : Result Spots Refused → Refused → Refused
refused_in (Ok s) d = d
refused_in (Err r) d = r

-- taken: all its fields
judged_taken : {fib : List ℕ} {v : Verdict} {spots : Spots} → JudgedAs fib v (Ok spots) → (fs : List FieldOf) × (v ≡ taken fs) × SpotsAre fib spots fs
unfolding spots_in
judged_taken {fib} {spots = spots} (is_taken fs v s e p) = (fs, v, subst (λ (x : Spots). SpotsAre fib x fs) (sym (ap (λ (r : Result Spots Refused). spots_in r spots) e)) p)
judged_taken (is_refused f v e) = absurd (true≢false (ap is_ok e))
judged_taken (is_no_block v e) = absurd (true≢false (ap is_ok e))

-- refused, and 32 bytes long: the outcome of its fault, at its place
judged_refused : {fib : List ℕ} {v : Verdict} {r : Refused} → (v ≡ no_block → ⊥) → JudgedAs fib v (Err r) → v ≡ refused (outcome_of r.fault) r.place
unfolding refused_in
judged_refused never (is_taken fs v s e p) = absurd (true≢false (sym (ap is_ok e)))
judged_refused {r = r} n (is_refused f v e) =
    v ∙ ap (λ (x : Result Spots Refused). refused (outcome_of (refused_in x r).fault) (refused_in x r).place) (sym e)
judged_refused never (is_no_block v e) = absurd (never v)

-- a taken block has at most 14 spots
pub judged_few : {fib : List ℕ} {spots : Spots} → JudgedAs fib (verdict fib) (Ok spots) → spots.count ≤ 14
judged_few w = let p = (judged_taken w).2 in omega (arith, p.count, p.few)

-- a refused one has none
pub no_count : {s : Spots} → s ≡ no_spots → s.count ≡ 0
unfolding no_spots
no_count e = ap (λ (x : Spots). x.count) e

-- a turn at a block: taken, or refused with every open list dropped
module _ (bytes : List ℕ) (t₀ t : Table) (reply : Reply) (spots : Spots) (from at i : ℕ) (G : Going bytes t₀ t reply spots from at i)
    (h : spots.count ≤ i) (l : 32 ≤ length bytes - at) (b256 : (n : ℕ) → get_or bytes n 0 < 256)
    (part : List ℕ) (part-is : part ≡ take 32 (drop at bytes)) (reply' : Reply) where
  fib : List ℕ
  fib = take 32 (drop at bytes)

  full : length fib ≡ 32
  unfolding fib
  full = length-take 32 (drop at bytes) ∙ ap (min 32) (length-drop at bytes) ∙ omega arith

  never_none : verdict part ≡ no_block → ⊥
  unfolding fib
  never_none v = subst (Refusal fib) (ap verdict (sym part-is) ∙ v) (full_refusal fib full)

  closed_table : (n : IdList) → n ≡ empty_list
      → table_of (with_draft t.sets (replicate most_keys n)) t.totals (next_block t.blocks) ≡ store_table (after_block G.now' (drop_open linkage G.now'.sets))
  unfolding totals_of
  closed_table n ne =
      let few = ((table_rules G.now'.sets).0 (sets_meet_law G.now' G.now_meets)).short in
      ap₂ (λ (u : Table) (x : IdList). table_of (with_draft u.sets (replicate most_keys x)) u.totals (next_block u.blocks)) G.stored ne
      ∙ ap₂ (λ (s : Sets) (u : Totals). table_of s u (next_block G.now'.blocks)) (sym (store_closed G.now'.sets few)) (ap sums (sym (shown_closed G.now'.sets)))

  pub turn_taken : (spots' : Spots) → JudgedAs part (verdict part) (Ok spots') → reply' ≡ reply_to reply Done 0
      → Going bytes t₀ (table_of t.sets t.totals (next_block t.blocks)) reply' spots' at (at + 32) 0
  turn_taken spots' j reply-is =
      let w = judged_taken j in
      going_taken bytes t₀ t reply spots from at i G h l b256 w.0 _ spots' reply' (ap verdict (sym part-is) ∙ w.1) (subst (λ (x : List ℕ). SpotsAre x spots' w.0) part-is w.2)
      reply-is (unfold totals_of in ap (λ (u : Table). table_of u.sets u.totals (next_block u.blocks)) G.stored)

  pub turn_refused : (r : Refused) → JudgedAs part (verdict part) (Err r) → reply' ≡ reply_to reply (outcome_of r.fault) r.place
      → (none' : Spots) → none'.count ≡ 0 → (none'' : IdList) → none'' ≡ empty_list
      → Going bytes t₀ (table_of (with_draft t.sets (replicate most_keys none'')) t.totals (next_block t.blocks)) reply' none' at (at + 32) 0
  turn_refused r j reply-is none' z n ne =
      going_refused bytes t₀ t reply spots from at i G h l _ none' reply' (outcome_of r.fault) r.place (ap verdict (sym part-is) ∙ judged_refused never_none j) reply-is z
      (closed_table n ne)

-- the block that the code hands on
pub block_part : (bytes : List ℕ) (at : ℕ) → take (at + 32 - at) (drop at bytes) ≡ take 32 (drop at bytes)
block_part bytes at =
    let e : at + 32 - at ≡ 32 = omega arith in
    ap (λ (k : ℕ). take k (drop at bytes)) e
