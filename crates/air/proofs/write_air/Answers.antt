-- `air::write_air` meets its contract.
use native.Mathlib.Omega.{arith}
use mathlib.Core.Path.{refl}
use borrow.Author.Rules.{rules}
use Rattle.lists.proofs.StoredLaws.{fails}
use Rattle.sets.proofs.SetsLaws.{stored_facts}
use Rattle.table.proofs.GivenLaws.{sets_stored}
use Rattle.air.proofs.Output.{answer_wrong, answer_short, answer_done}
use Rattle.air.proofs.write_air.Goals as goal

pub returns-then-not-meets : goal.returns-then-not-meets
returns-then-not-meets c =
    answer_wrong c.args.table c.args.out.now
    (λ s. fails refl c.if-not-meets.true (c.meets.ensures.complete s))

pub count_all-requires : goal.count_all-requires
count_all-requires c =
    let f = stored_facts _ (sets_stored _ (c.meets.ensures.sound c.if-not-meets.false)) in
    (f.short, f.shown_hold)

pub returns-then-out-count_all : goal.returns-then-out-count_all
returns-then-out-count_all c =
    answer_short c.args.table (c.meets.ensures.sound c.if-not-meets.false) c.count_all.result c.count_all.ensures.0 c.args.out.now c.if-out-count_all.true

pub put_all-requires : goal.put_all-requires
put_all-requires c =
    let f = stored_facts _ (sets_stored _ (c.meets.ensures.sound c.if-not-meets.false)) in
    (omega (arith, f.short), f.shown_hold)

pub returns : goal.returns
returns c =
    answer_done c.args.table (c.meets.ensures.sound c.if-not-meets.false) c.count_all.result c.count_all.ensures.0 c.if-out-count_all.false
    c.over-page.ensures.over c.put_all.ensures c.size.ensures (search rules)
