use Rattle.std.proofs.Common.{rules, Err, ◌≡◌, ◌∙◌, ap, inl, map, subst}
use Rattle.market_model.specs.LimitRows.{Carried, flow_by, offset_terms}
use Rattle.market_model.specs.Settlement.{priced_flow}
use Rattle.market_model.specs.SumTables.{IsFlowRefusal, offset_of_row, paid_offset}
use Rattle.market_model.specs.Valued.{dual_at, passed_at}
use Rattle.limit_screen.specs.Flows.{carried_at}
use Rattle.settlement.proofs.RowLemmas.{earning_refused, flow_not_paid}
use Rattle.settlement.proofs.rows.row_rent.Goals as goal

pub returns-in_err-flow-clause-stops : goal.returns-in_err-flow-clause-stops
returns-in_err-flow-clause-stops g c =
    let m = c.args.market.now in
    let value = g.N.Exact.value in
    let r = c.args.row in
    let given : c.from_residual.result ≡ Err c.in_err-flow.field-0.0 = search rules in
    rw given
    (flow_not_paid m (carried_at m (map value c.args.flows.now)) (dual_at value c.args.dual.now) r g.N.Exact.bound (passed_at value c.in_err-flow.field-0.0) c.in_err-flow.ensures.after
    (subst (λ (f : Carried). IsFlowRefusal m f r g.N.Exact.bound (passed_at value c.in_err-flow.field-0.0)) c.carried_flows.ensures.is c.in_err-flow.ensures.stops))

pub returns-in_err-offset-clause-stops : goal.returns-in_err-offset-clause-stops
returns-in_err-offset-clause-stops g c =
    let given : c.from_residual-in_err-offset.result ≡ Err c.in_err-offset.field-0.0 = search rules in
    rw given (inl (offset_terms c.args.market.now c.args.row, paid_offset _ offset_of_row, c.in_err-offset.ensures.stops))

pub returns-in_err-rent-clause-stops : goal.returns-in_err-rent-clause-stops
returns-in_err-rent-clause-stops g c =
    let m = c.args.market.now in
    let value = g.N.Exact.value in
    let r = c.args.row in
    let flow = c.in_ok-flow.ensures.flow ∙ ap (λ (f : Carried). flow_by m f r) c.carried_flows.ensures.is in
    let given : c.from_residual-in_err-rent.result ≡ Err c.in_err-rent.field-0.0 = search rules in
    rw given
    (earning_refused m (carried_at m (map value c.args.flows.now)) (dual_at value c.args.dual.now) c.args.row (value c.priced_flow.result) (value c.in_ok-offset.offset) g.N.Exact.bound (passed_at value c.in_err-rent.field-0.0)
    (c.priced_flow.ensures ∙ ap (priced_flow m r) flow) c.in_ok-offset.ensures.offset c.in_err-rent.ensures.stops)
