use Rattle.std.proofs.Common.{rules, Err, ◌≡◌, ◌∙◌, map, ap, subst, subst₂, sym}
use Rattle.std.proofs.lemmas.List.{length-map}
use Rattle.std.proofs.lemmas.Result.{IfOk-weaker, IfErr-weaker}
use Rattle.market_model.specs.Dispatch.{empty}
use Rattle.market_model.specs.LimitRows.{Carried, carried, flow_by}
use Rattle.market_model.specs.SumTables.{IsFlowRefusal}
use Rattle.market_model.specs.Valued.{passed_at}
use Rattle.market_model.proofs.RowMembers.{at_places}
use Rattle.market_model.specs.NamedSums.{IsMarginRefusal}
use Rattle.limit_screen.specs.Flows.{carried_at}
use Rattle.limit_screen.proofs.ScreenLemmas.{flow_count, flow_refusal_same, law_of_row_flows, row_terms}
use Rattle.clear_loop.specs.Bounding.{in_row_flow, in_upper}
use Rattle.clear_loop.proofs.FarkasSums.{lower_side, sides_sum}
use Rattle.clear_loop.proofs.bounding.with_limit.Goals as goal

pub carried_flows-requires : goal.carried_flows-requires
carried_flows-requires g c = sym (length-map c.args.flows.now g.N.Exact.value) ∙ flow_count c.args.market.now (empty c.args.market.now) (map g.N.Exact.value c.args.flows.now) c.requires.flows

pub row_flow-requires-clause-line : goal.row_flow-requires-clause-line
row_flow-requires-clause-line g c = (at_places c.args.market.now c.lines-lines.ensures.market c.args.row c.requires.row).0

pub row_flow-requires-clause-lost : goal.row_flow-requires-clause-lost
row_flow-requires-clause-lost g c = (at_places c.args.market.now c.lines-lines.ensures.market c.args.row c.requires.row).1

pub most_flow-requires : goal.most_flow-requires
most_flow-requires g c = (at_places c.args.market.now c.lines-lines.ensures.market c.args.row c.requires.row).0

pub returns-in_err-flow-clause-stops : goal.returns-in_err-flow-clause-stops
returns-in_err-flow-clause-stops g c =
    let m = c.args.market.now in
    let r = c.args.row in
    let fs = map g.N.Exact.value c.args.flows.now in
    let p = passed_at g.N.Exact.value c.in_err-flow.field-0.0 in
    let given : c.from_residual.result ≡ Err c.in_err-flow.field-0.0 = search rules in
    let here : IsFlowRefusal m (carried_at m fs) r g.N.Exact.bound p = subst (λ (k : Carried). IsFlowRefusal m k r g.N.Exact.bound p) c.carried_flows.ensures.is c.in_err-flow.ensures.stops in
    rw given
    (in_row_flow
    (flow_refusal_same m (carried_at m fs) (carried m (empty m)) r g.N.Exact.bound p (row_terms m (empty m) fs c.requires.flows r c.lines-lines.ensures.market c.requires.row) here))

pub returns-in_err-above-clause-stops : goal.returns-in_err-above-clause-stops
returns-in_err-above-clause-stops g c =
    let m = c.args.market.now in
    let r = c.args.row in
    let value = g.N.Exact.value in
    let p = passed_at value c.in_err-above.field-0.0 in
    let given : c.from_residual-in_err-above.result ≡ Err c.in_err-above.field-0.0 = search rules in
    let flow_is = c.in_ok-flow.ensures.flow ∙ ap (λ k. flow_by m k r) c.carried_flows.ensures.is ∙ law_of_row_flows m (empty m) (map value c.args.flows.now) r c.lines-lines.ensures.market c.requires.flows c.requires.row in
    rw given
    (in_upper (subst₂ (λ l f. IsMarginRefusal (value c.args.sum) (value c.args.dual.now.up) l f g.N.Exact.bound p) c.in_ok-most.ensures.most flow_is c.in_err-above.ensures.stops))

pub returns-clause-sum : goal.returns-clause-sum
returns-clause-sum g c = λ d up down.
    let m = c.args.market.now in
    let r = c.args.row in
    let value = g.N.Exact.value in
    let flow_is = c.in_ok-flow.ensures.flow ∙ ap (λ k. flow_by m k r) c.carried_flows.ensures.is ∙ law_of_row_flows m (empty m) (map value c.args.flows.now) r c.lines-lines.ensures.market c.requires.flows c.requires.row in
    IfOk-weaker c.with_side-2.result _ _
    (λ more e. sides_sum m d r (value c.args.dual.now.up) (value c.args.dual.now.down) (value c.args.sum) (value c.in_ok-above.above) (value more) (value c.in_ok-most.most) (value c.in_ok-flow.flow) (value c.neg.result) up down
    c.in_ok-most.ensures.most flow_is c.neg.ensures c.in_ok-above.ensures.sum e)
    c.with_side-2.ensures.sum

pub returns-clause-stops : goal.returns-clause-stops
returns-clause-stops g c =
    let m = c.args.market.now in
    let r = c.args.row in
    let value = g.N.Exact.value in
    let flow_is = c.in_ok-flow.ensures.flow ∙ ap (λ k. flow_by m k r) c.carried_flows.ensures.is ∙ law_of_row_flows m (empty m) (map value c.args.flows.now) r c.lines-lines.ensures.market c.requires.flows c.requires.row in
    IfErr-weaker c.with_side-2.result _ _
    (λ p h. lower_side m r (value c.args.dual.now.up) (value c.args.dual.now.down) (value c.args.sum) (value c.in_ok-above.above) (value c.in_ok-most.most) (value c.in_ok-flow.flow) (value c.neg.result) g.N.Exact.bound (passed_at value p)
    c.in_ok-above.ensures.sum c.in_ok-most.ensures.most flow_is c.neg.ensures h)
    c.with_side-2.ensures.stops
