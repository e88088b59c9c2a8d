use native.Mathlib.Omega.{arith}
use mathlib.Core.Path.{sym, ◌∙◌}
use borrow.Author.Tests.{ltb-true, ltb-false}
use Rattle.sheet.proofs.Numbers.{byte_here, number_start, number_end, number_short, number_wrong, number_last, number_fits, number_next, number_room}
use Rattle.sheet.proofs.Reader.number.Goals as goal

pub loop-i-init : goal.loop-i-init
loop-i-init c = number_start _

pub returns-in_err-get : goal.returns-in_err-get
returns-in_err-get c =
    number_short _ _ _ _ _ c.loop-i.invariant c.loop-i-test.true (ltb-false _ _ (sym c.in_err-get.ensures.lookup.0)) c.from_residual.ensures

pub returns-then-wrong_byte : goal.returns-then-wrong_byte
returns-then-wrong_byte c =
    number_wrong _ _ _ _ _ c.loop-i.invariant c.loop-i-test.true (ltb-true _ _ (sym c.in_ok-get.ensures.lookup.0)) _ (byte_here _ _ _ _ c.in_ok-get.ensures.lookup.0 c.from-b.ensures c.in_ok-get.ensures.lookup.1) (sym c.wrong_byte.ensures ∙ c.if-wrong_byte.true)

pub overflow_mul-result : goal.overflow_mul-result
overflow_mul-result c =
    omega (arith, number_fits _ _ _ _ _ c.loop-i.invariant c.loop-i-test.true (ltb-true _ _ (sym c.in_ok-get.ensures.lookup.0)) _ (byte_here _ _ _ _ c.in_ok-get.ensures.lookup.0 c.from-b.ensures c.in_ok-get.ensures.lookup.1) (sym c.wrong_byte.ensures ∙ c.if-wrong_byte.false) c.if-b-lt128.true)

pub overflow_add-result : goal.overflow_add-result
overflow_add-result c =
    omega (arith, number_fits _ _ _ _ _ c.loop-i.invariant c.loop-i-test.true (ltb-true _ _ (sym c.in_ok-get.ensures.lookup.0)) _ (byte_here _ _ _ _ c.in_ok-get.ensures.lookup.0 c.from-b.ensures c.in_ok-get.ensures.lookup.1) (sym c.wrong_byte.ensures ∙ c.if-wrong_byte.false) c.if-b-lt128.true)

pub returns-then-b-lt128 : goal.returns-then-b-lt128
returns-then-b-lt128 c =
    number_last _ _ _ _ _ c.loop-i.invariant c.loop-i-test.true (ltb-true _ _ (sym c.in_ok-get.ensures.lookup.0)) _ (byte_here _ _ _ _ c.in_ok-get.ensures.lookup.0 c.from-b.ensures c.in_ok-get.ensures.lookup.1) (sym c.wrong_byte.ensures ∙ c.if-wrong_byte.false) c.if-b-lt128.true

pub overflow_mul-value : goal.overflow_mul-value
overflow_mul-value c =
    omega (arith, number_room _ _ _ _ _ c.loop-i.invariant c.loop-i-test.true (ltb-true _ _ (sym c.in_ok-get.ensures.lookup.0)) _ (byte_here _ _ _ _ c.in_ok-get.ensures.lookup.0 c.from-b.ensures c.in_ok-get.ensures.lookup.1) (sym c.wrong_byte.ensures ∙ c.if-wrong_byte.false) c.if-b-lt128.false)

pub overflow_add-value : goal.overflow_add-value
overflow_add-value c =
    omega (arith, number_room _ _ _ _ _ c.loop-i.invariant c.loop-i-test.true (ltb-true _ _ (sym c.in_ok-get.ensures.lookup.0)) _ (byte_here _ _ _ _ c.in_ok-get.ensures.lookup.0 c.from-b.ensures c.in_ok-get.ensures.lookup.1) (sym c.wrong_byte.ensures ∙ c.if-wrong_byte.false) c.if-b-lt128.false)

pub overflow_mul-scale : goal.overflow_mul-scale
overflow_mul-scale c =
    omega (arith, number_room _ _ _ _ _ c.loop-i.invariant c.loop-i-test.true (ltb-true _ _ (sym c.in_ok-get.ensures.lookup.0)) _ (byte_here _ _ _ _ c.in_ok-get.ensures.lookup.0 c.from-b.ensures c.in_ok-get.ensures.lookup.1) (sym c.wrong_byte.ensures ∙ c.if-wrong_byte.false) c.if-b-lt128.false)

pub loop-i-preserved : goal.loop-i-preserved
loop-i-preserved c =
    number_next _ _ _ _ _ c.loop-i.invariant c.loop-i-test.true (ltb-true _ _ (sym c.in_ok-get.ensures.lookup.0)) _ (byte_here _ _ _ _ c.in_ok-get.ensures.lookup.0 c.from-b.ensures c.in_ok-get.ensures.lookup.1) (sym c.wrong_byte.ensures ∙ c.if-wrong_byte.false) c.if-b-lt128.false

pub returns : goal.returns
returns c = number_end _ _ _ _ _ c.loop-i.invariant c.loop-i-test.false
