-- `sheet::read_sheet` meets its contract: the count, the sets, and nothing left over.
use borrow.Author.Rules.{rules}
use lib.Dec.{leb}
use Rattle.rules.specs.Collecting.{most_keys}
use Rattle.sheet.proofs.Loads.{no_count, count_few, no_sets, left_over, sheet_made}
use Rattle.sheet.proofs.read_sheet.Goals as goal

pub returns-in_err-count : goal.returns-in_err-count
returns-in_err-count c = no_count _ (c.in_err-count.ensures (λ n. leb n most_keys) (λ n b s p. search rules)) c.from_residual.ensures

pub sets-requires : goal.sets-requires
sets-requires c = count_few c.args.bytes (c.in_ok-count.ensures (λ n. leb n most_keys) (λ n b s p. search rules))

pub returns-in_err-sets : goal.returns-in_err-sets
returns-in_err-sets c =
    no_sets _ (c.in_ok-count.ensures (λ n. leb n most_keys) (λ n b s p. search rules)) c.in_err-sets.ensures c.from_residual-in_err-sets.ensures

pub returns-then-reader-bytes : goal.returns-then-reader-bytes
returns-then-reader-bytes c =
    left_over _ (c.in_ok-count.ensures (λ n. leb n most_keys) (λ n b s p. search rules)) c.in_ok-sets.ensures c.if-reader-bytes.true

pub returns : goal.returns
returns c =
    sheet_made _ (c.in_ok-count.ensures (λ n. leb n most_keys) (λ n b s p. search rules)) c.in_ok-sets.ensures
    (λ i. (c.type_inv.bytes i).fits) c.if-reader-bytes.false _ c.of.ensures
