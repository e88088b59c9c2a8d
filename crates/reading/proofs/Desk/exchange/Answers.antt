-- `reading::Desk::exchange` meets its contract: the rows' own, in their columns.
use mathlib.Core.Path.{◌∙◌}
use Rattle.reading.proofs.GatheredLaws.{row_size_law, part_long}
use Rattle.reading.proofs.RunRows.{exchanged_law}
use Rattle.reading.proofs.Desk.exchange.Goals as goal

pub returns : goal.returns
returns c =
    let S = c.requires.0 in
    let p = c.args.p in
    let hp = c.requires.1 in
    let r = c.on_held-held in
    exchanged_law c.args.self.now S p hp _ (row_size_law p) c.args.body.now c.args.f c.at-row.result c.at.result c.at-row.ensures c.at.ensures r.result r.new.sn r.new.sk r.new.dn r.new.dk r.ensures
    (r.auto.sn ∙ part_long p _ (row_size_law p) hp _ S.shown.numbers) (r.auto.sk ∙ part_long p _ (row_size_law p) hp _ S.shown.kinds)
    (r.auto.dn ∙ part_long p _ (row_size_law p) hp _ S.draft.numbers) (r.auto.dk ∙ part_long p _ (row_size_law p) hp _ S.draft.kinds)
    _ _ c.put.ensures c.put-2.ensures _ c.confirmed_by.ensures _ c.exchanged-self.ensures
