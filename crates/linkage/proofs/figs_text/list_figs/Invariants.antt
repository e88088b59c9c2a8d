-- `figs_text::list_figs` is safe: a chunk for each turn still finds room in the count of bytes.
use Rattle.std.proofs.Common.{◌≤◌, ◌*◌}
use Rattle.linkage.proofs.figs_text.list_figs.Given as goal

abbrev pub invariant-loop-turn : goal.invariant-loop-turn
invariant-loop-turn g l = l.listed.size ≤ 32768 * l.turn
