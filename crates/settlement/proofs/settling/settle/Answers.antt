use Rattle.std.proofs.Common.{rules, Err, ◌≡◌, ◌∙◌, ap, inl, inr, map}
use Rattle.std.proofs.lemmas.Result.{IfErr-weaker}
use Rattle.market_model.specs.Valued.{duals_at, passed_at, total_at}
use Rattle.market_model.specs.Dispatch.{dispatch_with}
use Rattle.market_model.specs.PutIn.{dispatch_of}
use Rattle.market_model.proofs.StopLemmas.{on_passed_weaker}
use Rattle.limit_screen.specs.Flows.{IsFlowsRefusal}
use Rattle.settlement.specs.Refusals.{IsMoneyRefusal}
use Rattle.settlement.proofs.BlockFlows.{flows_refusal}
use Rattle.settlement.proofs.settling.settle.Goals as goal

pub settle_flows-requires-clause-flows : goal.settle_flows-requires-clause-flows
settle_flows-requires-clause-flows g c = ap (map g.N.Exact.value) c.deref.ensures.value ∙ c.in_ok-flows.ensures.flows

pub returns-in_err-flows-clause-stops : goal.returns-in_err-flows-clause-stops
returns-in_err-flows-clause-stops g c =
    let value = g.N.Exact.value in
    let given : c.from_residual.result ≡ Err c.in_err-flows.field-0.0 = search rules in
    rw given
    (on_passed_weaker c.in_err-flows.field-0.0 (λ p. IsFlowsRefusal c.args.market.now (dispatch_of value c.args.dispatch.now) g.N.Exact.bound (passed_at value p)) _ (λ p refused. inl (flows_refusal c.args.market.now (map value c.args.dispatch.now) (map value c.args.reserve.now) g.N.Exact.bound (passed_at value p) refused)) c.in_err-flows.ensures.stops)

pub returns-clause-stops : goal.returns-clause-stops
returns-clause-stops g c =
    let value = g.N.Exact.value in
    IfErr-weaker c.settle_flows.result _ _
    (λ stop.
    on_passed_weaker stop (λ p. IsMoneyRefusal c.args.market.now (dispatch_with (map value c.args.dispatch.now) (map value c.args.reserve.now)) (total_at value c.args.prices.now) (duals_at value c.args.duals.now) g.N.Exact.bound (passed_at value p)) _
    (λ p refused. inr refused))
    c.settle_flows.ensures.stops
