-- `reading::Reply::noted` meets its contract: the notes' own, and that of the count.
use Rattle.reading.specs.Runs.{reply_with}
use Rattle.reading.proofs.Reply.noted.Goals as goal

pub returns : goal.returns
unfolding reply_with
returns c =
    let s = c.args.self in
    λ i. record { outcome = s.outcome; place = s.place; full = c.with_start.ensures i; refused = s.refused; notes = c.noted.ensures i }
