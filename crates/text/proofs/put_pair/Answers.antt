-- `text::put_pair` meets its contract: a blank, the letter and the digits, one after another.
use native.Mathlib.Omega.{arith}
use Rattle.rules.specs.Field.{pair}
use Rattle.text.specs.Listing.{pair_text}
use Rattle.rules.proofs.TableRules.{width_most}
use Rattle.out.proofs.Pages.{writes_as, writes_then}
use Rattle.text.proofs.put_pair.Goals as goal

pub overflow_mul-width_of : goal.overflow_mul-width_of
overflow_mul-width_of c = record { fits = omega (arith, c.width_of.ensures, width_most c.args.key) }

pub returns : goal.returns
unfolding pair_text pair
returns c =
    writes_as
    (rw (c.letter_of.ensures, c.width_of.ensures))
    (writes_then (writes_then c.put.ensures c.put-2.ensures) c.put_hex.ensures)
