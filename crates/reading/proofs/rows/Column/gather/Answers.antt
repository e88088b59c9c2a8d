use native.Mathlib.Omega.{arith}
use mathlib.Core.Path.{refl, sym, ap, ◌∙◌}
use Rattle.rules.proofs.Basics.{length_of_map}
use Rattle.reading.specs.Gathered.{Whole, row_list}
use Rattle.reading.proofs.GatheredLaws.{row_size_law, part_long, length_gathered, gathered_at, gathering_changed, gathering_same, gathering_end}
use borrow.Author.Rules.{rules}
use Rattle.reading.proofs.rows.Column.gather.Goals as goal
use Rattle.reading.proofs.rows.Column.gather.Goals.{else-self-p, then-self-p}

pub loop-p-init : goal.loop-p-init
loop-p-init c = record { within = omega arith; long = search (length_of_map, rules); front = refl; rest = λ q h. refl }

pub list_of-requires : goal.list_of-requires
list_of-requires c =
    let p = c.loop-p.p in
    let W : Whole c.args.self.now.numbers c.args.self.now.kinds c.args.self.now.rows = search rules in (
      part_long p _ (row_size_law p) c.loop-p-test.true c.args.self.now.numbers W.numbers,
      part_long p _ (row_size_law p) c.loop-p-test.true c.args.self.now.kinds W.kinds,
    )

pub loop-p-preserved : goal.loop-p-preserved
loop-p-preserved c =
    let l = c.loop-p in
    let w : Whole c.args.self.now.numbers c.args.self.now.kinds c.args.self.now.rows = search rules in
    elim c.if-self-p.branch [
      | then-self-p x ↦ gathering_changed l.invariant (length_gathered _ _ _ w) c.loop-p-test.true _ (x.list_of.ensures ∙ ap (row_list _ _) x.at.ensures ∙ sym (gathered_at _ _ _ w l.p _ (row_size_law l.p) c.loop-p-test.true)) _ x.lists-is
      | else-self-p x ↦ gathering_same l.invariant (length_gathered _ _ _ w) c.loop-p-test.true (c.requires l.p c.loop-p-test.true x.if-self-p.false) _ x.lists-is
    ]

pub returns : goal.returns
returns c =
    let w : Whole c.args.self.now.numbers c.args.self.now.kinds c.args.self.now.rows = search rules in
    gathering_end c.loop-p.invariant (length_gathered _ _ _ w) c.loop-p-test.false
