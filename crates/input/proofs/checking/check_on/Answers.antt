-- `checking::check_on` meets its contract: what is told and read of whole blocks goes on after those before.
use native.Mathlib.Omega.{arith}
use lib.ListN.{take}
use borrow.Author.Tests.{eqb-true}
use Rattle.rules.proofs.Basics.{true-false}
use Rattle.input.proofs.CheckLaws.{checked_on}
use Rattle.input.proofs.checking.check_on.Goals as goal

pub returns-then-n-gt0 : goal.returns-then-n-gt0
returns-then-n-gt0 g c =
    let filled = c.next_blocks-filled in
    let told = c.tell_blocks.ensures in
    let read = c.add_chunk.ensures in
    checked_on _ _ (take filled.result.size filled.new.buffer) c.requires.checking c.requires.size_value (rw told.same_received at read.reads_more) told.refused_value _ _
    (rw told.same_received at read.size_value_2) (omega (arith, filled.ensures)) (λ e. omega (arith, eqb-true, filled.ensures))

pub returns-else-n-gt0 : goal.returns-else-n-gt0
returns-else-n-gt0 g c =
    let filled = c.next_blocks-filled in
    let told = c.tell_blocks.ensures in
    let read = c.add_chunk.ensures in
    checked_on _ _ (take filled.result.size filled.new.buffer) c.requires.checking c.requires.size_value (rw told.same_received at read.reads_more) told.refused_value _ _
    (rw told.same_received at read.size_value_2) (omega (arith, filled.ensures)) (λ e. true-false e c.if-n-gt0.false)
