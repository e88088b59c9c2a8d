-- `checking::put_blocks` meets its contract: it tells block by block.
use Rattle.std.proofs.Common.{◌≡◌}
use Rattle.std.specs.Iterator.Adapters.{enumerate_source, enumerate_count}
use Rattle.std.specs.Slice.Iter.{chunks_exact_rest, chunks_exact_size}
use Rattle.input.proofs.CheckLaws.{Telling}
use Rattle.input.proofs.checking.put_blocks.Given as goal

abbrev pub invariant-loop-i : goal.invariant-loop-i
invariant-loop-i l =
    (chunks_exact_size (enumerate_source l.i-iterator) ≡ 32)
    × Telling l.initial.page l.before l.bytes l.page l.refused (enumerate_count l.i-iterator) (chunks_exact_rest (enumerate_source l.i-iterator))
