-- `reading::Desk::take` meets its contract: the turns of RunRows.antt.
use mathlib.Core.Path.{sym}
use Rattle.reading.proofs.RunRows.{held_place, draft_short, takes_held, takes_new, takes_same}
use Rattle.reading.proofs.Desk.take.Goals as goal

pub exchange-requires : goal.exchange-requires
exchange-requires c =
    let d = c.args.self.now in
    let w = held_place d c.requires _ _ (sym c.if-stands_at.ensures) in
    (c.requires.shelved, w, draft_short d c.requires _ w)

pub returns-then-stands_at : goal.returns-then-stands_at
returns-then-stands_at c = takes_held c.args.self.now c.args.body.now c.args.f _ c.key-key.ensures _ c.place_of-p.ensures (sym c.if-stands_at.ensures) _ _ c.exchange.ensures

pub returns-then-not-opens : goal.returns-then-not-opens
returns-then-not-opens c = takes_same c.args.self.now c.args.body.now c.args.f _ c.key-key.ensures _ c.place_of-p.ensures (sym c.if-stands_at.ensures) (sym c.if-not-opens.ensures) c.requires.shelved _ c.unheld_note.ensures

pub returns : goal.returns
returns c =
    takes_new c.args.self.now c.args.body.now c.args.f _ c.key-key.ensures _ c.place_of-p.ensures (sym c.if-stands_at.ensures) (sym c.if-not-opens.ensures) (λ n. (c.type_inv.body n).fits)
    _ c.open.ensures
