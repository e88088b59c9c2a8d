-- `input::some_holds` meets its contract: block by block, what the bytes that are left say is what they all say.
use Rattle.std.proofs.Common.{◌≡◌}
use Rattle.std.specs.Slice.Iter.{chunks_exact_rest, chunks_exact_size}
use Rattle.input.specs.Reading.{good_in}
use Rattle.input.proofs.some_holds.Given as goal

abbrev pub invariant-loop-block : goal.invariant-loop-block
invariant-loop-block l =
    (chunks_exact_size l.block-iterator ≡ 32) × (good_in (chunks_exact_rest l.block-iterator) ≡ good_in l.bytes)
