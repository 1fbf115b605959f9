use Rattle.std.proofs.Common.{rules, Err, ◌≡◌, ◌∙◌, refl}
use Rattle.market_model.specs.Valued.{passed_at}
use Rattle.exact_fraction.specs.declared.Op.TheVariants as Op
use Rattle.market_model.proofs.SumSteps.{refusal}
use Rattle.market_model.proofs.BalanceSteps.{balance_is, balance_refused}
use Rattle.market_model.proofs.ListSteps.{sum_step, sum_end}
use Rattle.market_model.proofs.putting.balance.Goals as goal

pub loop-mw-preserved : goal.loop-mw-preserved
loop-mw-preserved g c = sum_step g.N.Exact.value c.args.injections.now c.loop-mw.mw-index c.mw-item.result _ _ c.loop-mw-test.true c.mw-item.is c.loop-mw.invariant c.in_ok-sum.ensures.exact

pub returns-clause-sum : goal.returns-clause-sum
returns-clause-sum g c = λ x puts. c.loop-mw.invariant ∙ sum_end g.N.Exact.value c.args.injections.now c.loop-mw.mw-index c.loop-mw-test.false ∙ balance_is g.N.Exact.value c.args.market.now x c.args.injections.now puts

pub returns-in_err-sum-clause-stops : goal.returns-in_err-sum-clause-stops
returns-in_err-sum-clause-stops g c =
    let given : c.from_residual.result ≡ Err c.in_err-sum.field-0.0 = search rules in
    λ x puts. rw given
    (balance_refused g.N.Exact.value c.args.market.now x c.args.injections.now puts c.loop-mw.mw-index c.mw-item.result (g.N.Exact.value c.loop-mw.sum) g.N.Exact.bound
    (passed_at g.N.Exact.value c.in_err-sum.field-0.0) c.loop-mw-test.true c.mw-item.is c.loop-mw.invariant
    (refusal g.N.Exact.value g.N.Exact.bound Op.Plus c.loop-mw.sum _ _ _ c.in_err-sum.field-0.0 refl refl c.in_err-sum.ensures))
