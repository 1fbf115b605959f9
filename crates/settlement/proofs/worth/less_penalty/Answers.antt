use Rattle.std.proofs.Common.{rules, Err, ◌≡◌, inl, subst}
use Rattle.market_model.specs.LimitRows.{Carried}
use Rattle.market_model.specs.SumTables.{IsFlowRefusal}
use Rattle.market_model.specs.Valued.{passed_at}
use Rattle.settlement.proofs.worth.less_penalty.Goals as goal

pub returns-in_err-flow-clause-stops : goal.returns-in_err-flow-clause-stops
returns-in_err-flow-clause-stops g c =
    let m = c.args.market.now in
    let value = g.N.Exact.value in
    let given : c.from_residual.result ≡ Err c.in_err-flow.field-0.0 = search rules in
    rw given
    (inl (subst (λ (f : Carried). IsFlowRefusal m f c.args.row g.N.Exact.bound (passed_at value c.in_err-flow.field-0.0)) c.carried_flows.ensures.is c.in_err-flow.ensures.stops))
