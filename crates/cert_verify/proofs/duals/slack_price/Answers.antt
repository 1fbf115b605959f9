use Rattle.std.proofs.Common.{rules, Err, ◌≡◌, sym, ◌∙◌, arith}
use Rattle.fraction_theory.specs.Fraction.{Fraction}
use Rattle.market_model.specs.declared.answered.Dual.{Dual}
use Rattle.market_model.specs.Valued.{dual_at}
use Rattle.cert_verify.specs.declared.verdicts.Reason.TheVariants as reason
use Rattle.cert_verify.specs.Reasons.{has_slack}
use Rattle.cert_verify.proofs.FindLemmas.{item_here, item_more, item_none}
use Rattle.cert_verify.proofs.duals.slack_price.Goals as goal

pub returns-then-slack-clause-first : goal.returns-then-slack-clause-first
returns-then-slack-clause-first g c = λ x are.
    item_here (λ (e : Dual Fraction). reason.Slack e.row) (has_slack c.args.market.now x) (dual_at g.N.Exact.value) c.args.limits.now c.loop-dual.dual-index c.dual-item.result (c.loop-dual.invariant x are)
    (omega (arith, c.loop-dual-test.true)) c.dual-item.is (sym (c.in_ok-slack.ensures.slack x are) ∙ c.if-slack.true)

pub loop-dual-preserved : goal.loop-dual-preserved
loop-dual-preserved g c = λ x are.
    item_more (λ (e : Dual Fraction). reason.Slack e.row) (has_slack c.args.market.now x) (dual_at g.N.Exact.value) c.args.limits.now c.loop-dual.dual-index c.dual-item.result (c.loop-dual.invariant x are)
    (omega (arith, c.loop-dual-test.true)) c.dual-item.is (sym (c.in_ok-slack.ensures.slack x are) ∙ c.if-slack.false)

pub returns-clause-first : goal.returns-clause-first
returns-clause-first g c = λ x are.
    item_none (λ (e : Dual Fraction). reason.Slack e.row) (has_slack c.args.market.now x) (dual_at g.N.Exact.value) c.args.limits.now c.loop-dual.dual-index (c.loop-dual.invariant x are) (omega (arith, c.loop-dual-test.false))

pub returns-in_err-slack-clause-stops : goal.returns-in_err-slack-clause-stops
returns-in_err-slack-clause-stops g c =
    let given : c.from_residual.result ≡ Err c.in_err-slack.field-0.0 = search rules in
    λ x are. rw given (c.in_err-slack.ensures.stops x are)
