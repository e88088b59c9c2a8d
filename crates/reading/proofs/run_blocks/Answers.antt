use Prim.Native.Nat.{ℕ, ◌+◌, ◌-◌, ◌*◌}
use native.Mathlib.Omega.{arith}
use mathlib.Core.Path.{◌≡◌, sym, ap, ◌∙◌, subst₂}
use mathlib.Core.List.{List}
use lib.ListN.{take, drop, get_or}
use Rattle.block.specs.Judged.{no_spot}
use Rattle.block.proofs.Meaning.{says}
use Rattle.rules.specs.declared.Outcome.{Outcome}
use Rattle.reading.specs.declared.Desk.{Desk}
use Rattle.reading.specs.declared.Reply.{Reply}
use Rattle.reading.specs.Runs.{reply_to}
use Rattle.reading.proofs.RunRows.{Between, kept_first, kept_field, kept_passed, kept_taken, kept_refused, between_at, between_end}
use Rattle.reading.proofs.Turns.{block_part}
use Rattle.reading.proofs.run_blocks.Goals as goal
use Rattle.reading.proofs.run_blocks.Goals.{in-Err, in-Ok+else-loop-i-test}

pub loop-b-init : goal.loop-b-init
loop-b-init c = kept_first _ c.args.table c.requires _ c.of-desk.ensures _ c.none-reply.ensures

-- ---- a taken block, and its fields

pub loop-i-init : goal.loop-i-init
loop-i-init c =
    kept_taken c.loop-b.invariant (omega arith) (λ n. (c.type_inv.bytes n).fits) _ (block_part c.args.bytes.now (32 * c.loop-b.b)) _ _ c.next_block.ensures
    c.in-Ok.found (says _ (sym c.in-Ok.is ∙ c.judge.ensures)) c.to-reply-in-Ok.ensures

pub loop-i-preserved : goal.loop-i-preserved
loop-i-preserved c =
    let s = get_or c.in-Ok.found.spots c.loop-i.i no_spot in
    kept_field c.loop-i.invariant c.loop-i-test.true _ (ap (λ (x : List ℕ). take (s.end - s.start) (drop s.start x)) (block_part c.args.bytes.now (32 * c.loop-b.b))) _ c.field.ensures _ _ c.take-note.ensures _ c.noted-reply.ensures

-- ---- a block, and the end

pub loop-b-preserved : goal.loop-b-preserved
loop-b-preserved c =
    let b = c.loop-b.b in
    let next : 32 * b + 32 ≡ 32 * (b + 1) = omega arith in
    elim c.match-judge.branch [
      | in-Err w ↦ subst₂ (λ (d : Desk) (r : Reply). Between c.args.bytes.now c.args.table d r (32 * (b + 1))) (sym w.desk-is) (sym w.reply-is)
          (between_at
          (kept_refused c.loop-b.invariant (omega arith) (λ n. (c.type_inv.bytes n).fits) _ (block_part c.args.bytes.now (32 * b)) _ _ c.next_block.ensures
          w.in-Err.refused (says _ (sym w.in-Err.is ∙ c.judge.ensures))
          (w.to-reply.ensures ∙ ap (λ (o : Outcome). reply_to c.loop-b.reply o w.in-Err.refused.place) w.from.ensures) _ w.none-desk.ensures)
          _ next)
      | in-Ok+else-loop-i-test w ↦ subst₂ (λ (d : Desk) (r : Reply). Between c.args.bytes.now c.args.table d r (32 * (b + 1))) (sym w.desk-is) (sym w.reply-is)
          (kept_passed w.loop-i.invariant w.loop-i-test.false _ next)
    ]

pub returns : goal.returns
returns c = between_end c.loop-b.invariant (omega arith) _ c.sets.ensures _ c.of.ensures
