-- `Reader::pair` meets its contract: a kind and a number are read one after the other, each with its test.
use native.Mathlib.Omega.{arith}
use borrow.Author.Rules.{rules}
use mathlib.Core.Path.{ap}
use mathlib.Core.Bool.{not, ◌||◌}
use lib.Dec.{eqb}
use lib.ListN.{length}
use Rattle.rules.specs.Collecting.{key_width, kind_named, may_begin}
use Rattle.rules.proofs.Basics.{and_left}
use Rattle.rules.proofs.TableRules.{kind_small}
use Rattle.lists.specs.Stored.{listed}
use Rattle.layout.specs.Parse.{kind_fits, number_fits}
use Rattle.sheet.specs.Reading.{longer}
use Rattle.sheet.proofs.Pairs.{pair_no_kind, pair_kind, pair_made}
use Rattle.sheet.proofs.Steps.{then_not}
use Rattle.sheet.proofs.Tests.{if_true}
use Rattle.sheet.proofs.Reader.pair.Goals as goal

pub returns-in_err-kind : goal.returns-in_err-kind
unfolding kind_named kind_fits longer
returns-in_err-kind c =
    let a = c.args in
    pair_no_kind a.key a.named (listed a.before) (c.in_err-kind.ensures (kind_fits a.key a.named (listed a.before)) (λ n b s p. search rules))
    (ap (longer _) c.from_residual.ensures)

pub overflow_cast-kind : goal.overflow_cast-kind
unfolding kind_named kind_fits
overflow_cast-kind c =
    let a = c.args in
    let k = c.in_ok-kind.field-0 in
    let t = if_true (kind_fits a.key a.named (listed a.before)) (c.in_ok-kind.ensures (kind_fits a.key a.named (listed a.before)) (λ n b s p. search rules)) in
    omega (arith, kind_small a.named k (and_left (kind_named a.named k) (may_begin a.key k || not (eqb (length (listed a.before)) 0)) t))

pub returns-in_err-number : goal.returns-in_err-number
unfolding kind_named kind_fits longer number_fits
returns-in_err-number c =
    let a = c.args in
    pair_kind a.key a.named (listed a.before) (c.in_ok-kind.ensures (kind_fits a.key a.named (listed a.before)) (λ n b s p. search rules))
    (then_not _
    (c.in_err-number.ensures (number_fits (key_width a.key) (listed a.before) c.in_ok-kind.field-0) (λ n b s p. search rules))
    (ap (longer _) c.from_residual-in_err-number.ensures))

pub returns : goal.returns
unfolding kind_named kind_fits number_fits
returns c =
    let a = c.args in
    pair_kind a.key a.named (listed a.before) (c.in_ok-kind.ensures (kind_fits a.key a.named (listed a.before)) (λ n b s p. search rules))
    (pair_made a.key c.in_ok-kind.field-0 (listed a.before)
    (c.in_ok-number.ensures (number_fits (key_width a.key) (listed a.before) c.in_ok-kind.field-0) (λ n b s p. search rules)))
