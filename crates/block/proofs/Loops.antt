-- The two loops of a block, in this order: a body's bytes and the fields found there; the loop over the fields of a body, its
-- invariant, its first turn, a field more, its end and its break; the loop over the FIGs of a block likewise.
use Prim.Native.Nat.{ℕ, zero, suc, ◌+◌, ◌*◌, ◌-◌, ◌≤◌, ◌<◌}
use native.Mathlib.Omega.{arith}
use mathlib.Core.Path.{◌≡◌, refl, sym, ap, ap₂, ◌∙◌}
use mathlib.Core.Bool.{true, false}
use mathlib.Core.List.{List, [], ◌∷◌, ◌++◌, map}
use lib.ListN.{length, take, drop, length-take, length-drop}
use Rattle.std.specs.Prelude.{Option, None, Result, Err}
use Rattle.rules.specs.Block.{Placed, Walk, whole, broken, after, walk, Fig as FigOf, fig_at, figs}
use Rattle.rules.specs.Field.{is_linking, field_at, fields_of}
use Rattle.rules.specs.Outcomes.{joined, judge_figs}
use Rattle.rules.proofs.Taken.{walk_item, walk_end, walk_wrong, block_item, block_wrong, field_item}
use Rattle.figs.specs.declared.Cursor.{Cursor}
use Rattle.figs.specs.declared.FigStep.{FigStep}
use Rattle.figs.specs.declared.FigStep.TheVariants.{Fig, End as FigEnd, Wrong as FigWrong}
use Rattle.figs.specs.Figs.{step_at, found as fig_found}
use Rattle.figs.proofs.Laws.{step_at_means, step_at_range, Lies}
use Rattle.field.specs.declared.Field.{Field}
use Rattle.field.specs.declared.FieldStep.{FieldStep}
use Rattle.field.specs.declared.FieldStep.TheVariants.{Found, End, Wrong}
use Rattle.field.specs.FieldStep.{linking, field_step_at, meaning, found}
use Rattle.field.proofs.Laws.{field_step_at_means}
use Rattle.block.specs.declared.Spots.{Spots}
use Rattle.block.specs.declared.Fault.TheVariants as Fault
use Rattle.block.specs.declared.Refused.{Refused}
use Rattle.block.specs.declared.Pushed.{Pushed}
use Rattle.block.specs.Judged.{Located, spot_of, map_walk, standing, located_of, located, no_spots, store_spots, fault_by, judged_as}
use Rattle.block.specs.Faults.{fault_in, fault_at, worse, judge_from, located_from, located_in, CanPush, Pushes, Concludes, JudgesFigs}
use Rattle.block.proofs.Walks.{joined_none, joined_after, map_after}
use Rattle.block.proofs.Verdicts.{fault_means, judge_after, judge_broken, judge_figs_from, figs_first, figs_after, figs_over, figs_none, figs_wrong}
use Rattle.block.proofs.Storing.{stored_none, with_spot, stored_more}

-- ---- a field that is found

-- a FIG's body fib[start..stop]
abbrev pub body : List ℕ → ℕ → ℕ → List ℕ
body fib start stop = take (stop - start) (drop start fib)

body_length : (fib : List ℕ) (start stop : ℕ) → length fib ≡ 32 → stop ≤ 30 → length (body fib start stop) ≡ stop - start
body_length fib start stop l h = length-take (stop - start) (drop start fib) ∙ omega (arith, length-drop start fib)

-- what the rules find at a place, by what the code does
stands_as : (bytes : List ℕ) (at : ℕ) (s : FieldStep) → field_step_at bytes at ≡ s → field_at bytes at ≡ found bytes s
stands_as bytes at s e = sym (field_step_at_means bytes at) ∙ ap (found bytes) e

-- a field that the code finds at a place of a body, with its spot
abbrev spotted : List ℕ → ℕ → ℕ → ℕ → Field → Located
spotted fib start stop at f = standing start stop (record { place = start + at; what = meaning (body fib start stop) f })

-- the fields of a body from a place on, by what the code finds there
module _ (fib : List ℕ) (start stop n at : ℕ) where
  from_found : (f : Field) (next : ℕ) → field_step_at (body fib start stop) at ≡ Found f next
      → located_from fib start stop (suc n) at ≡ after (spotted fib start stop at f) (located_from fib start stop n next)
  unfolding located_from found
  from_found f next e =
      ap (map_walk (standing start stop))
      (walk_item start (field_at (body fib start stop)) n at _ next (stands_as (body fib start stop) at (Found f next) e))
      ∙ map_after (standing start stop) _ (walk start (field_at (body fib start stop)) n next)

  from_end : field_step_at (body fib start stop) at ≡ End → located_from fib start stop (suc n) at ≡ whole []
  unfolding located_from found map_walk
  from_end e =
      ap (map_walk (standing start stop)) (walk_end start (field_at (body fib start stop)) n at (stands_as (body fib start stop) at End e))

  from_wrong : field_step_at (body fib start stop) at ≡ Wrong → located_from fib start stop (suc n) at ≡ broken (start + at)
  unfolding located_from found map_walk
  from_wrong e =
      ap (map_walk (standing start stop)) (walk_wrong start (field_at (body fib start stop)) n at (stands_as (body fib start stop) at Wrong e))

-- ---- the loop over the fields of a body

-- what has been found at a place of a body, after fault₀ and spots₀ before it: n more steps are left to the walk, enough to
-- reach the end
pub record FieldsSoFar (fib : List ℕ) (start stop : ℕ) (fault₀ : Option Refused) (spots₀ : Spots) (fault : Option Refused) (spots : Spots) (at : ℕ) : Type 0 where
  pub within : start + at ≤ stop
  pub room : 2 * spots.count + 2 ≤ start + at
  pub fields :
      (ls : List Located) → spots₀ ≡ store_spots (map spot_of ls)
      → (more : List Located)
      × (n : ℕ)
      × (stop < start + at + n)
      × (spots ≡ store_spots (map spot_of more))
      × ((rest : Walk Located)
      → judge_from fault₀ ls (joined (located_in fib start stop) rest)
      ≡ judge_from fault more (joined (located_from fib start stop n at) rest))

-- before the first field
pub fields_first : (fib : List ℕ) (start stop : ℕ) (before : Pushed) → CanPush fib start stop before
    → FieldsSoFar fib start stop before.fault before.spots before.fault before.spots 1
unfolding located_in
fields_first fib start stop before p =
    record {
      within = omega (arith, p.holds);
      room = omega (arith, p.room);
      fields = λ ls q. (ls, stop - start, omega (arith, p.holds), q, λ rest. refl);
    }

module _ (fib : List ℕ) (start stop : ℕ) (fault₀ : Option Refused) (spots₀ : Spots) (fault : Option Refused) (spots : Spots) (at : ℕ)
    (block : length fib ≡ 32) (inside : stop ≤ 30) (so : FieldsSoFar fib start stop fault₀ spots₀ fault spots at) where
  -- the steps left are not used up
  spare : (n : ℕ) → stop < start + at + n → (m : ℕ) × (n ≡ suc m)
  spare zero h = absurd (omega (arith, so.within))
  spare (suc m) h = (m, refl)

  module _ (ls : List Located) (q : spots₀ ≡ store_spots (map spot_of ls)) where
    -- the steps left after this one
    fewer : ℕ
    fewer = (spare (so.fields ls q).1 (so.fields ls q).2).0

    fewer_is : (so.fields ls q).1 ≡ suc fewer
    unfolding fewer
    fewer_is = (spare (so.fields ls q).1 (so.fields ls q).2).1

    -- the answer from here, by what the walk comes to
    fields_judged : (w : Walk Located) → located_from fib start stop (suc fewer) at ≡ w → (rest : Walk Located)
        → judge_from fault₀ ls (joined (located_in fib start stop) rest) ≡ judge_from fault (so.fields ls q).0 (joined w rest)
    fields_judged w e rest =
        (so.fields ls q).4 rest
        ∙ ap (λ (v : Walk Located). judge_from fault (so.fields ls q).0 (joined v rest))
        (ap (λ (k : ℕ). located_from fib start stop k at) fewer_is ∙ e)

  module _ (f : Field) (next : ℕ) (e : field_step_at (body fib start stop) at ≡ Found f next) where
    stands : (at + 2 ≤ next) × (start + next ≤ stop)
    unfolding found
    stands =
        let s = field_item (body fib start stop) at (meaning (body fib start stop) f) next (stands_as (body fib start stop) at (Found f next) e) in
        (s.from, omega (arith, s.inside, body_length fib start stop block inside, so.within))

    pub field_room : spots.count < 14
    field_room = omega (arith, stands, so.room)

    pub field_goes_on : stop - start - next < stop - start - at
    field_goes_on = omega (arith, stands)

    -- a field more
    pub fields_next : FieldsSoFar fib start stop fault₀ spots₀ (worse fault (fault_in f (start + at))) (with_spot spots (record { start = start; end = stop; place = at })) next
    fields_next =
        let same = fault_means (body fib start stop) f (start + at) in
        record {
          within = stands.1;
          room = omega (arith, stands, so.room);
          fields = λ ls q.
              let more = (so.fields ls q).0 in
              let n = fewer ls q in
              let l = spotted fib start stop at f in
              let w = located_from fib start stop n next in
              let place : at ≡ start + at - start = omega arith in (
                more ++ l ∷ [],
                n,
                omega (arith, stands, (so.fields ls q).2, fewer_is ls q),
                ap (λ (p : ℕ). with_spot spots (record { start = start; end = stop; place = p })) place
                    ∙ stored_more spots more l (so.fields ls q).3 field_room,
                λ rest. fields_judged ls q _ (from_found fib start stop n at f next e) rest
                    ∙ ap (judge_from fault more) (joined_after l w rest)
                    ∙ judge_after fault more l (joined w rest)
                    ∙ ap (λ (x : Option Refused). judge_from (worse fault x) (more ++ l ∷ []) (joined w rest)) (sym same),
              );
        }

  -- at the end of the body nothing of it is to come
  pub fields_end : field_step_at (body fib start stop) at ≡ End
      → Pushes fib start stop (record { fault = fault₀; spots = spots₀ }) (record { fault = fault; spots = spots })
  fields_end e =
      record {
        room = omega (arith, so.room, so.within);
        fields = λ ls q. (
          (so.fields ls q).0,
          (so.fields ls q).3,
          λ rest. fields_judged ls q (whole []) (from_end fib start stop (fewer ls q) at e) rest
              ∙ ap (judge_from fault (so.fields ls q).0) (joined_none rest),
        );
      }

  -- at a field that does not fit the fault is 4, whatever comes, and the place this field's, unless one before it did not fit
  pub fields_wrong : field_step_at (body fib start stop) at ≡ Wrong
      → Pushes fib start stop (record { fault = fault₀; spots = spots₀ }) (record { fault = worse fault (fault_at Fault.WrongField (start + at)); spots = spots })
  fields_wrong e =
      record {
        room = omega (arith, so.room, so.within);
        fields = λ ls q. (
          (so.fields ls q).0,
          (so.fields ls q).3,
          λ rest. fields_judged ls q (broken (start + at)) (from_wrong fib start stop (fewer ls q) at e) rest
              ∙ judge_broken fault (so.fields ls q).0 (so.fields ls q).0 (start + at) rest,
        );
      }

-- ---- the loop over the FIGs of a block

-- what has been found at a place of a block
pub record FigsSoFar (fib : List ℕ) (found : Pushed) (at : ℕ) : Type 0 where
  pub within : at ≤ 30
  pub room : 2 * found.spots.count ≤ at
  pub fields : List Located
  pub stored : found.spots ≡ store_spots (map spot_of fields)
  pub left : ℕ
  pub spare : 30 < at + left
  pub same : judged_as (judge_figs (figs fib)) (located fib) ≡ judge_figs_from found.fault fields (walk 0 (fig_at fib) left at)

pub figs_begin : (fib : List ℕ) (found : Pushed) (at : ℕ) → found.fault ≡ None → found.spots ≡ no_spots → at ≡ 0 → FigsSoFar fib found at
unfolding store_spots figs
figs_begin fib found at f s a =
    let none : found.spots.count ≡ 0 = ap (λ (x : Spots). x.count) (s ∙ stored_none) in
    record {
      within = omega arith;
      room = omega arith;
      fields = [];
      stored = s ∙ stored_none;
      left = 31;
      spare = omega arith;
      same = figs_first fib ∙ ap₂ (λ (x : Option Refused) (p : ℕ). judge_figs_from x [] (walk 0 (fig_at fib) 31 p)) (sym f) (sym a);
    }

module _ (fib : List ℕ) (found : Pushed) (at : ℕ) (block : length fib ≡ 32) (so : FigsSoFar fib found at) where
  -- the steps left are not used up
  fig_spare : (n : ℕ) → 30 < at + n → (m : ℕ) × (n ≡ suc m)
  fig_spare zero h = absurd (omega (arith, so.within))
  fig_spare (suc m) h = (m, refl)

  less : ℕ
  less = (fig_spare so.left so.spare).0

  figs_from : (w : Walk (Placed FigOf)) → walk 0 (fig_at fib) (suc less) at ≡ w
      → judged_as (judge_figs (figs fib)) (located fib) ≡ judge_figs_from found.fault so.fields w
  unfolding less
  figs_from w e =
      so.same
      ∙ ap (λ (k : ℕ). judge_figs_from found.fault so.fields (walk 0 (fig_at fib) k at)) (fig_spare so.left so.spare).1
      ∙ ap (judge_figs_from found.fault so.fields) e

  -- what the rules find at this place, by what the code does
  fig_as : (s : FigStep) → step_at fib at ≡ s → fig_at fib at ≡ fig_found fib s
  fig_as s e = sym (step_at_means fib at block) ∙ ap (fig_found fib) e

  -- at the end of the list
  pub figs_end : step_at fib at ≡ FigEnd → (r : Result Spots Refused) → Concludes found r → JudgesFigs fib r
  unfolding fig_found JudgesFigs Concludes
  figs_end e r c =
      c so.fields so.stored
      ∙ sym (figs_from (whole []) (walk_end 0 (fig_at fib) less at (fig_as FigEnd e)) ∙ figs_none found.fault so.fields)

  -- at a FIG whose length is wrong
  pub figs_break : step_at fib at ≡ FigWrong → (r : Result Spots Refused) → r ≡ Err (record { fault = Fault.WrongFig; place = at }) → JudgesFigs fib r
  unfolding fig_found JudgesFigs judged_as fault_by
  figs_break e r a =
      a ∙ sym (figs_from (broken at) (block_wrong (fig_at fib) less at (fig_as FigWrong e)) ∙ figs_wrong found.fault so.fields at)

  module _ (kind start stop : ℕ) (next : Cursor) (e : step_at fib at ≡ Fig kind start stop next) where
    fig : Placed FigOf
    fig = record { place = at; what = record { type = kind; body = body fib start stop } }

    lies : Lies fib at start stop next
    lies = step_at_range fib at kind start stop next e

    pub fig_inside : (start < stop) × (stop ≤ 30)
    fig_inside = (lies.holds, lies.within)

    pub fig_goes_on : 30 - next.at < 30 - at
    fig_goes_on = omega (arith, lies.holds, lies.begins, lies.goes_on_law, lies.before)

    pub can_push : CanPush fib start stop found
    can_push =
        record {
          block = block;
          holds = lies.holds;
          within = lies.within;
          room = omega (arith, so.room, lies.begins);
        }

    steps : walk 0 (fig_at fib) (suc less) at ≡ after fig (walk 0 (fig_at fib) less next.at)
    unfolding fig_found fig
    steps = block_item (fig_at fib) less at fig.what next.at (fig_as (Fig kind start stop next) e)

    still : 30 < next.at + less
    unfolding less
    still = omega (arith, so.spare, (fig_spare so.left so.spare).1, lies.holds, lies.begins, lies.goes_on_law)

    -- the fields of this FIG are those of its body
    fig_fields : located_of fig ≡ located_in fib start stop
    unfolding located_of fields_of located_in located_from fig
    fig_fields =
        let n = body_length fib start stop block lies.within in
        let a : at + 1 ≡ start = sym lies.begins in
        let b : at + 1 + length (body fib start stop) ≡ stop = omega (arith, n, lies.begins, lies.holds) in
        λ i. map_walk (standing (a i) (b i)) (walk (a i) (field_at (body fib start stop)) (n i) 1)

    -- it carries linking, by the rules and by the code
    fig_linking : is_linking fig.what ≡ linking kind (body fib start stop)
    unfolding linking fig
    fig_linking = refl

    -- after a FIG that carries linking
    pub figs_next : linking kind (body fib start stop) ≡ true → (more : Pushed) → Pushes fib start stop found more → FigsSoFar fib more next.at
    figs_next l more p =
        let w = p.fields so.fields so.stored in
        record {
          within = omega (arith, lies.within, lies.goes_on_law);
          room = omega (arith, p.room, lies.goes_on_law);
          fields = w.0;
          stored = w.1;
          left = less;
          spare = still;
          same = figs_from _ steps
              ∙ figs_after found.fault more.fault so.fields w.0 fig (walk 0 (fig_at fib) less next.at) (fig_linking ∙ l)
              (λ rest. ap (λ (v : Walk Located). judge_from found.fault so.fields (joined v rest)) fig_fields ∙ w.2 rest);
        }

    -- after any other
    pub figs_skip : linking kind (body fib start stop) ≡ false → FigsSoFar fib found next.at
    figs_skip l =
        record {
          within = omega (arith, lies.within, lies.goes_on_law);
          room = omega (arith, so.room, lies.holds, lies.begins, lies.goes_on_law);
          fields = so.fields;
          stored = so.stored;
          left = less;
          spare = still;
          same = figs_from _ steps ∙ figs_over found.fault so.fields fig (walk 0 (fig_at fib) less next.at) (fig_linking ∙ l);
        }
