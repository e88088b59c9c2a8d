-- `input::read_on` meets its contract: a chunk that is full has whole blocks, so that the reading can go on after it.
use native.Mathlib.Omega.{arith}
use borrow.Author.Tests.{eqb-true}
use Rattle.input.specs.Reading.{ReadsMore}
use Rattle.input.proofs.read_on.Goals as goal

pub returns : goal.returns
unfolding ReadsMore
returns g c =
    record { read = (c.add_chunk.ensures.reads_more c.requires.reading).0; even = λ e. omega (arith, eqb-true); within = omega arith }
