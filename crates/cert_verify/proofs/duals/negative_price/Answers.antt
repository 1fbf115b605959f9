use Rattle.std.proofs.Common.{sym, ◌∙◌, arith}
use Rattle.fraction_theory.specs.Fraction.{Fraction}
use Rattle.market_model.specs.declared.answered.Dual.{Dual}
use Rattle.market_model.specs.Valued.{dual_at}
use Rattle.cert_verify.specs.declared.verdicts.Reason.TheVariants as reason
use Rattle.cert_verify.specs.Reasons.{has_negative}
use Rattle.cert_verify.proofs.FindLemmas.{item_here, item_more, item_none}
use Rattle.cert_verify.proofs.duals.negative_price.Goals as goal

pub returns-then-has_negative : goal.returns-then-has_negative
returns-then-has_negative g c =
    item_here (λ (e : Dual Fraction). reason.Sign e.row) has_negative (dual_at g.N.Exact.value) c.args.limits.now c.loop-dual.dual-index c.dual-item.result c.loop-dual.invariant
    (omega (arith, c.loop-dual-test.true)) c.dual-item.is (sym c.has_negative.ensures ∙ c.if-has_negative.true)

pub loop-dual-preserved : goal.loop-dual-preserved
loop-dual-preserved g c =
    item_more (λ (e : Dual Fraction). reason.Sign e.row) has_negative (dual_at g.N.Exact.value) c.args.limits.now c.loop-dual.dual-index c.dual-item.result c.loop-dual.invariant
    (omega (arith, c.loop-dual-test.true)) c.dual-item.is (sym c.has_negative.ensures ∙ c.if-has_negative.false)

pub returns : goal.returns
returns g c =
    item_none (λ (e : Dual Fraction). reason.Sign e.row) has_negative (dual_at g.N.Exact.value) c.args.limits.now c.loop-dual.dual-index c.loop-dual.invariant (omega (arith, c.loop-dual-test.false))
