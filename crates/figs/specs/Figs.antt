-- What stands at a place of a block, as a step answers it, and what it means by the rules.
use Rattle.std.specs.Prelude.{ℕ, ◌+◌, ◌-◌, ◌/◌, ◌%◌, cond, List, length, get_or, take, drop, leb, ltb, eqb}
use Rattle.figs.specs.declared.FigStep.{FigStep}
use Rattle.figs.specs.declared.FigStep.TheVariants.{Fig, End, Wrong}
use Rattle.rules.specs.Block.{Step, item, end, wrong, Fig as FigOf}

-- the answer at a place: anything but 32 bytes is wrong; then the tests of fig_at, in its order
unfoldable pub step_at : List ℕ → ℕ → FigStep
step_at fib at =
    cond (eqb (length fib) 32)
    (cond (leb 30 at) End
    (cond (eqb (get_or fib at 0) 255) End
    (cond (eqb (get_or fib at 0 % 32) 0) Wrong
    (cond (ltb 30 (at + 1 + get_or fib at 0 % 32)) Wrong
    (Fig (get_or fib at 0 / 32) (at + 1) (at + 1 + get_or fib at 0 % 32) (record { at = at + 1 + get_or fib at 0 % 32 }))))))
    Wrong

-- an answer as a step of the rules: the FIG's body is the part of the block from its start to its end
unfoldable pub found : List ℕ → FigStep → Step FigOf
found fib (Fig kind start stop next) = item (record { type = kind; body = take (stop - start) (drop start fib) }) next.at
found fib End = end
found fib Wrong = wrong
