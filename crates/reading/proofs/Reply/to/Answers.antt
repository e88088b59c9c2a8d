-- `reading::Reply::to` meets its contract: no notes yet, and that of the count of refusals.
use Rattle.reading.specs.Runs.{reply_to}
use Rattle.reading.proofs.Reply.to.Goals as goal

pub returns : goal.returns
unfolding reply_to
returns c =
    let a = c.args in
    λ i. record { outcome = a.outcome; place = a.place; full = a.self.full; refused = c.with_refusal.ensures i; notes = c.none.ensures i }
