-- `input::add_chunk` meets its contract: after whole blocks, reading the chunk is reading the bytes before and the chunk together.
use native.Mathlib.Omega.{arith}
use mathlib.Core.Path.{◌∙◌}
use Rattle.input.proofs.Laws.{good_before, good_now, full_within, refused_within, reading_chunk}
use Rattle.input.proofs.add_chunk.Goals as goal
use Rattle.input.proofs.add_chunk.Goals.{then-received, else-received}

pub overflow_add-received-2 : goal.overflow_add-received-2
overflow_add-received-2 c = omega (arith, refused_within _ _ _ c.read_recording-read.ensures c.requires.reading, c.requires.chunk_bound)

pub overflow_add-received-3 : goal.overflow_add-received-3
overflow_add-received-3 c = omega (arith, full_within _ _ _ c.read_recording-read.ensures c.requires.reading, c.requires.chunk_bound)

pub returns-clause-reads_more : goal.returns-clause-reads_more
returns-clause-reads_more c =
    reading_chunk _ _ _ c.read_recording-read.ensures _ _ c.requires.size_value (λ i. (c.type_inv.chunk i).fits)
    (elim c.if-received.branch [
      | then-received w ↦ w.received-is ∙ good_before _ _ w.if-received.true
      | else-received w ↦ w.received-is ∙ good_now _ _ _ w.if-received.false w.some_holds-received.ensures
    ])
