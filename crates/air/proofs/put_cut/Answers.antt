use mathlib.Core.Path.{◌≡◌, ap, subst}
use mathlib.Core.List.{◌∷◌}
use Rattle.pieces.specs.Air.{cut, blocks_of}
use Rattle.rules.proofs.Basics.{Every}
use Rattle.sets.specs.Shown.{set_in}
use Rattle.out.proofs.Pages.{going_start, going_as, going_on, going_end}
use Rattle.air.specs.Parts.{piece_of, to_come, Fitting}
use Rattle.air.proofs.Sets.{set_fits}
use Rattle.air.proofs.put_cut.Goals as goal

pub loop-piece-init : goal.loop-piece-init
loop-piece-init c =
    let h = c.args.head in
    let all : cut h.key (set_in c.args.list.now).items ≡ to_come c.into_iter-piece-iterator.result = (cc) in
    record {
      writes = going_as (ap (blocks_of h.key h.on) all) (going_start _ _);
      fit = subst (Every (Fitting h.key)) all (set_fits h.key c.args.list.now c.requires);
    }

pub loop-piece-preserved : goal.loop-piece-preserved
unfolding blocks_of
loop-piece-preserved c =
    let h = c.args.head in
    let turn : to_come c.loop-piece.piece-iterator ≡ piece_of c.in-Some.piece ∷ to_come c.next.new.self = c.in-Some.ensures.steps in
    record {
      writes = going_on (ap (blocks_of h.key h.on) turn) c.loop-piece.invariant.writes c.put_block.ensures;
      fit = (subst (Every (Fitting h.key)) turn c.loop-piece.invariant.fit).1;
    }

pub returns : goal.returns
unfolding blocks_of
returns c = going_end (ap (blocks_of c.args.head.key c.args.head.on) c.in-None.ensures.steps.0) c.loop-piece.invariant.writes
