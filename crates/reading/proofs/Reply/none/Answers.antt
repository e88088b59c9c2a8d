-- `reading::Reply::none` meets its contract: its notes are those of `Notes::none`.
use Rattle.rules.specs.declared.Outcome.TheVariants.{Done}
use Rattle.reading.specs.Runs.{no_reply}
use Rattle.reading.proofs.Reply.none.Goals as goal

pub returns : goal.returns
unfolding no_reply
returns c = λ i. record { outcome = Done; place = 0; full = 0; refused = 0; notes = c.none.ensures i }
