-- `text::write_listing` meets its contract: without the numbers the whole is the listing.
use Rattle.text.proofs.Texts.{listed_plain}
use Rattle.text.proofs.SetLaws.{outputs_as}
use Rattle.text.proofs.write_listing.Goals as goal

pub returns : goal.returns
returns c = outputs_as _ _ _ _ (λ d. listed_plain d c.args.over) c.write_lines.ensures
