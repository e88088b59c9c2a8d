-- `Reader::head` meets its contract: its numbers are read one after another, each with its test.
use native.Mathlib.Omega.{arith}
use borrow.Author.Rules.{rules}
use lib.Dec.{leb}
use Rattle.rules.specs.Collecting.{names_meet}
use Rattle.layout.specs.Parse.{key_fits, count_fits}
use Rattle.sheet.proofs.Heads.{no_key, with_key, with_on, with_named, with_count}
use Rattle.rules.proofs.TableRules.{names_small}
use Rattle.sheet.proofs.Steps.{then_not}
use Rattle.sheet.proofs.Tests.{if_true}
use Rattle.sheet.proofs.Reader.head.Goals as goal

pub returns-in_err-key : goal.returns-in_err-key
unfolding key_fits
returns-in_err-key c = no_key _ (c.in_err-key.ensures (key_fits c.args.last) (λ n b s p. search rules)) c.from_residual.ensures

pub returns-in_err-on : goal.returns-in_err-on
unfolding key_fits
returns-in_err-on c =
    with_key _ (c.in_ok-key.ensures (key_fits c.args.last) (λ n b s p. search rules))
    (then_not _ (c.in_err-on.ensures (λ on. leb on 1) (λ n b s p. search rules)) c.from_residual-in_err-on.ensures)

pub returns-in_err-named : goal.returns-in_err-named
unfolding key_fits names_meet
returns-in_err-named c =
    with_key _ (c.in_ok-key.ensures (key_fits c.args.last) (λ n b s p. search rules))
    (with_on _ (c.in_ok-on.ensures (λ on. leb on 1) (λ n b s p. search rules))
    (then_not _ (c.in_err-named.ensures (names_meet c.in_ok-key.key) (λ n b s p. search rules)) c.from_residual-in_err-named.ensures))

pub returns-in_err-count : goal.returns-in_err-count
unfolding key_fits names_meet count_fits
returns-in_err-count c =
    with_key _ (c.in_ok-key.ensures (key_fits c.args.last) (λ n b s p. search rules))
    (with_on _ (c.in_ok-on.ensures (λ on. leb on 1) (λ n b s p. search rules))
    (with_named _ _ (c.in_ok-named.ensures (names_meet c.in_ok-key.key) (λ n b s p. search rules))
    (then_not _ (c.in_err-count.ensures count_fits (λ n b s p. search rules)) c.from_residual-in_err-count.ensures)))

pub overflow_cast-result : goal.overflow_cast-result
unfolding names_meet
overflow_cast-result c =
    omega (arith, names_small c.in_ok-key.key c.in_ok-named.named (if_true (names_meet c.in_ok-key.key) (c.in_ok-named.ensures (names_meet c.in_ok-key.key) (λ n b s p. search rules))))

pub returns : goal.returns
unfolding key_fits names_meet count_fits
returns c =
    with_key _ (c.in_ok-key.ensures (key_fits c.args.last) (λ n b s p. search rules))
    (with_on _ (c.in_ok-on.ensures (λ on. leb on 1) (λ n b s p. search rules))
    (with_named _ _ (c.in_ok-named.ensures (names_meet c.in_ok-key.key) (λ n b s p. search rules))
    (with_count _ _ _ (c.in_ok-count.ensures count_fits (λ n b s p. search rules)))))
