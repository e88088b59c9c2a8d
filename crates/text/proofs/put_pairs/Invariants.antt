-- `text::put_pairs` meets its contract: the text of the pairs from the present one on is what is left to write.
use Rattle.rules.specs.Collecting.{key_width}
use Rattle.text.specs.Listing.{pairs_text}
use Rattle.lists.specs.Stored.{paired}
use Rattle.out.proofs.Pages.{Going}
use Rattle.text.proofs.put_pairs.Given as goal

abbrev pub invariant-loop-kind : goal.invariant-loop-kind
invariant-loop-kind l =
    let ids = paired l.pairs.kinds.now l.pairs.numbers.now in
    Going l.initial.page (pairs_text (key_width l.key) ids) l.page (pairs_text (key_width l.key) (paired l.kind-iterator.a.rest.now l.kind-iterator.b.rest.now))
