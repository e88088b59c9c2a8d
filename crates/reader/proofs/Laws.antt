-- What a reader's steps mean by the rules, in this order: a step admits a single answer; what it finds is what fig_at says
-- stands at the place; where a FIG that it finds lies, and where the reader then stands; and the steps of a reader from the
-- first place on, up to the end or a wrong FIG, find exactly the FIGs of the block, each where the reader stood.
use Prim.Native.Nat.{ℕ, zero, suc, ◌+◌, ◌-◌, ◌<◌}
use native.Mathlib.Omega.{arith}
use mathlib.Core.Path.{◌≡◌, refl, sym, ap, subst, ◌∙◌}
use mathlib.Core.List.{List, []}
use lib.ListN.{length, take, drop}
use denote.Ref.{Bor}
use Rattle.rules.specs.Block.{Placed, Walk, whole, broken, after, walk, fig_at, figs, Fig as FigOf}
use Rattle.rules.proofs.Taken.{walk_end, block_item, block_wrong}
use Rattle.figs.specs.declared.Cursor.{Cursor}
use Rattle.figs.specs.declared.FigStep.{FigStep}
use Rattle.figs.specs.declared.FigStep.TheVariants.{Fig, End, Wrong}
use Rattle.figs.specs.Figs.{step_at, found}
use Rattle.figs.proofs.Laws.{Lies, step_at_means, step_at_range}
use Rattle.reader.specs.declared.FigReader.{FigReader}
use Rattle.reader.specs.Reader.{place_after, Stepped}

-- ---- one step

-- two steps from one reader answer the same, and leave the same reader
pub stepped_one : {r r₁ r₂ : FigReader} {f₁ f₂ : FigStep} → Stepped r f₁ r₁ → Stepped r f₂ r₂ → (f₁ ≡ f₂) × (r₁ ≡ r₂)
stepped_one {r} a b =
    let same = a.finds ∙ sym b.finds in
    let place = a.moves ∙ ap (place_after r.at) same ∙ sym b.moves in
    (same, λ i. record { fib = (a.keeps ∙ sym b.keeps) i; at = place i })

-- what a step finds in a block is what the rules find at the reader's place
pub stepped_means : {r r' : FigReader} {f : FigStep} → length r.fib.now ≡ 32 → Stepped r f r' → found r.fib.now f ≡ fig_at r.fib.now r.at
stepped_means {r} h s = ap (found r.fib.now) s.finds ∙ step_at_means r.fib.now r.at h

-- where a FIG that a step finds lies
pub stepped_lies : {r r' : FigReader} {kind start stop : ℕ} {next : Cursor} → Stepped r (Fig kind start stop next) r' → Lies r.fib.now r.at start stop next
stepped_lies {r} {kind = kind} {start = start} {stop = stop} {next = next} s = step_at_range r.fib.now r.at kind start stop next (sym s.finds)

-- and the reader then stands at its end
pub stepped_past : {r r' : FigReader} {kind start stop : ℕ} {next : Cursor} → Stepped r (Fig kind start stop next) r' → r'.at ≡ stop
unfolding place_after
stepped_past s = s.moves ∙ (stepped_lies s).goes_on_law

-- at the end, and at a wrong FIG, the reader is as it was
pub stepped_end : {r r' : FigReader} → Stepped r End r' → r' ≡ r
unfolding place_after
stepped_end s = λ i. record { fib = s.keeps i; at = s.moves i }

pub stepped_wrong : {r r' : FigReader} → Stepped r Wrong r' → r' ≡ r
unfolding place_after
stepped_wrong s = λ i. record { fib = s.keeps i; at = s.moves i }

-- ---- steps up to the end

-- the steps of a reader, each from where the one before left it, up to the end or a wrong FIG, and what they find
pub data Reads : FigReader → Walk (Placed FigOf) → Type 0 where
  at_end : {r r' : FigReader} → Stepped r End r' → Reads r (whole [])
  at_wrong : {r r' : FigReader} → Stepped r Wrong r' → Reads r (broken r.at)
  past : {r r' : FigReader} {kind start stop : ℕ} {next : Cursor} {w : Walk (Placed FigOf)} → Stepped r (Fig kind start stop next) r' → Reads r' w
      → Reads r (after (record { place = r.at; what = record { type = kind; body = take (stop - start) (drop start r.fib.now) } }) w)

-- enough steps for a walk from a place: every FIG has two bytes or more, and the list ends at place 30
record Enough (n at : ℕ) : Type 0 where
  some : 0 < n
  all : 30 < n + at

-- after a FIG there are enough steps left
left_enough : {r r' : FigReader} {kind start stop : ℕ} {next : Cursor} (n : ℕ) → Stepped r (Fig kind start stop next) r' → Enough (suc n) r.at → Enough n r'.at
left_enough n s e =
    let l = stepped_lies s in
    let p = stepped_past s in
    record { some = omega arith; all = omega arith }

-- the block that a step leaves is the block
left_block : {r r' : FigReader} {f : FigStep} → length r.fib.now ≡ 32 → Stepped r f r' → length r'.fib.now ≡ 32
left_block h s = ap (λ (x : Bor (List ℕ)). length x.now) s.keeps ∙ h

-- and the rules' walk goes on where the step left the reader
goes_on_law : {r r' : FigReader} {kind start stop : ℕ} {next : Cursor} (n : ℕ) → Stepped r (Fig kind start stop next) r'
    → walk 0 (fig_at r'.fib.now) n r'.at ≡ walk 0 (fig_at r.fib.now) n next.at
unfolding place_after
goes_on_law n s = λ i. walk 0 (fig_at (s.keeps i).now) n (s.moves i)

-- all that such steps find is what the rules' walk finds
reads_walk : {r : FigReader} {w : Walk (Placed FigOf)} (n : ℕ) → Reads r w → length r.fib.now ≡ 32 → Enough n r.at → w ≡ walk 0 (fig_at r.fib.now) n r.at
unfolding found
reads_walk zero x h e = absurd (omega arith)
reads_walk {r = r} (suc n) (at_end s) h e = sym (walk_end 0 _ n _ (sym (stepped_means h s)))
reads_walk {r = r} (suc n) (at_wrong s) h e = sym (block_wrong _ n _ (sym (stepped_means h s)))
reads_walk {r = r} (suc n) (past {r' = r'} {kind = kind} {start = start} {stop = stop} {next = next} {w = w} s rest) h e =
    ap (after _) (reads_walk {r = r'} n rest (left_block h s) (left_enough n s e) ∙ goes_on_law n s) ∙ sym (block_item _ n _ _ _ (sym (stepped_means h s)))

-- one step of the rules' walk by a reader, given the steps after it
walk_step : (n : ℕ) {r r' : FigReader} (f : FigStep) → Stepped r f r' → length r.fib.now ≡ 32 → Enough (suc n) r.at
    → (Enough n r'.at → Reads r' (walk 0 (fig_at r'.fib.now) n r'.at)) → Reads r (walk 0 (fig_at r.fib.now) (suc n) r.at)
unfolding found
walk_step n {r} (Fig kind start stop next) s h e more =
    subst (Reads r) (ap (after _) (goes_on_law n s) ∙ sym (block_item _ n _ _ _ (sym (stepped_means h s)))) (past s (more (left_enough n s e)))
walk_step n {r} End s h e more = subst (Reads r) (sym (walk_end 0 _ n _ (sym (stepped_means h s)))) (at_end s)
walk_step n {r} Wrong s h e more = subst (Reads r) (sym (block_wrong _ n _ (sym (stepped_means h s)))) (at_wrong s)

-- and there are steps that find it
walk_reads : (n : ℕ) (r : FigReader) → length r.fib.now ≡ 32 → Enough n r.at → Reads r (walk 0 (fig_at r.fib.now) n r.at)
walk_reads zero r h e = absurd (omega arith)
walk_reads (suc n) r h e =
    let f = step_at r.fib.now r.at in
    let r' : FigReader = record { fib = r.fib; at = place_after r.at f } in
    walk_step n {r = r} {r' = r'} f (record { finds = refl; keeps = refl; moves = refl }) h e (λ e'. walk_reads n r' h e')

-- the steps from the first place of a block find exactly its FIGs by the rules
pub reads_figs : (r : FigReader) (w : Walk (Placed FigOf)) → length r.fib.now ≡ 32 → r.at ≡ 0 → Reads r w → w ≡ figs r.fib.now
unfolding figs
reads_figs r w h z x = reads_walk 31 x h (record { some = omega arith; all = omega arith }) ∙ ap (walk 0 (fig_at r.fib.now) 31) z

-- and a reader there can make them
pub figs_read : (r : FigReader) → length r.fib.now ≡ 32 → r.at ≡ 0 → Reads r (figs r.fib.now)
unfolding figs
figs_read r h z = subst (Reads r) (ap (walk 0 (fig_at r.fib.now) 31) z) (walk_reads 31 r h (record { some = omega arith; all = omega arith }))
