use Rattle.std.proofs.Common.{rules, [], Err, ◌≡◌, ◌∙◌, map, ap, ap₂, subst, sym, w64}
use Rattle.std.proofs.lemmas.Int.{to_z-of_z}
use Rattle.std.proofs.lemmas.List.{length-map}
use mir.Val.{to_z, of_z}
use Rattle.fraction_theory.proofs.ListSums.{Contains-head}
use Rattle.fraction_theory.specs.Fraction.{whole, neg_ℚ, ◌-ℚ◌}
use Rattle.exact_fraction.specs.declared.Op.TheVariants.{Minus}
use Rattle.market_model.specs.Dispatch.{empty}
use Rattle.market_model.specs.LimitRows.{Carried, flow, flow_by, limit}
use Rattle.market_model.specs.SumTables.{IsFlowRefusal}
use Rattle.market_model.specs.Valued.{passed_at}
use Rattle.market_model.proofs.SumSteps.{refusal}
use Rattle.market_model.proofs.RowMembers.{at_places}
use Rattle.limit_screen.proofs.ScreenLemmas.{flow_count, law_of_row_flows, row_terms}
use Rattle.limit_screen.specs.Flows.{carried_at}
use Rattle.market_dict.proofs.RefusalLaws.{bounds_refused}
use Rattle.market_dict.specs.Refusals.{of_high, of_low, of_bound}
use Rattle.market_dict.proofs.posing.row_bounds.Goals as goal

pub carried_flows-requires : goal.carried_flows-requires
carried_flows-requires g c = sym (length-map c.args.base_flows.now g.N.Exact.value) ∙ flow_count c.args.market.now (empty c.args.market.now) (map g.N.Exact.value c.args.base_flows.now) c.requires.base_flows

pub row_flow-requires-clause-line : goal.row_flow-requires-clause-line
row_flow-requires-clause-line g c = (at_places c.args.market.now c.lines-lines.ensures.market c.args.row c.requires.row).0

pub row_flow-requires-clause-lost : goal.row_flow-requires-clause-lost
row_flow-requires-clause-lost g c = (at_places c.args.market.now c.lines-lines.ensures.market c.args.row c.requires.row).1

pub limit_at-requires : goal.limit_at-requires
limit_at-requires g c = (at_places c.args.market.now c.lines-lines.ensures.market c.args.row c.requires.row).0

pub returns-in_err-flow-clause-stops : goal.returns-in_err-flow-clause-stops
returns-in_err-flow-clause-stops g c =
    let m = c.args.market.now in
    let given : c.from_residual.result ≡ Err c.in_err-flow.field-0.0 = search rules in
    let p = passed_at g.N.Exact.value c.in_err-flow.field-0.0 in
    let here : IsFlowRefusal m (carried_at m (map g.N.Exact.value c.args.base_flows.now)) c.args.row g.N.Exact.bound p =
    subst (λ (k : Carried). IsFlowRefusal m k c.args.row g.N.Exact.bound p) c.carried_flows.ensures.is c.in_err-flow.ensures.stops in
    rw given
    (bounds_refused m (carried_at m (map g.N.Exact.value c.args.base_flows.now)) c.args.row g.N.Exact.bound p c.requires.row
    (row_terms m (empty m) (map g.N.Exact.value c.args.base_flows.now) c.requires.base_flows c.args.row c.lines-lines.ensures.market c.requires.row) here)

pub returns-in_err-high-clause-stops : goal.returns-in_err-high-clause-stops
returns-in_err-high-clause-stops g c =
    let m = c.args.market.now in
    let r = c.args.row in
    let known : to_z w64 (of_z w64 c.limit_at.result) ≡ c.limit_at.result = to_z-of_z w64 c.limit_at.result (record { sfits = c.limit_at.type_inv }) in
    let limit_is = c.datum-limit.ensures ∙ ap whole known ∙ c.limit_at.ensures.limit in
    let flow_is = c.in_ok-flow.ensures.flow ∙ ap (λ k. flow_by m k r) c.carried_flows.ensures.is ∙ law_of_row_flows m (empty m) (map g.N.Exact.value c.args.base_flows.now) r c.lines-lines.ensures.market c.requires.base_flows c.requires.row in
    let given : c.from_residual-in_err-high.result ≡ Err c.in_err-high.field-0.0 = search rules in
    rw given (of_bound c.args.row c.requires.row (Contains-head c.args.row []) (of_high (refusal g.N.Exact.value g.N.Exact.bound Minus c.datum-limit.result c.in_ok-flow.flow (limit m r) (flow m (empty m) r) c.in_err-high.field-0.0 limit_is flow_is c.in_err-high.ensures)))

pub returns-in_err-low-clause-stops : goal.returns-in_err-low-clause-stops
returns-in_err-low-clause-stops g c =
    let m = c.args.market.now in
    let r = c.args.row in
    let known : to_z w64 (of_z w64 c.limit_at.result) ≡ c.limit_at.result = to_z-of_z w64 c.limit_at.result (record { sfits = c.limit_at.type_inv }) in
    let limit_is = c.datum-limit.ensures ∙ ap whole known ∙ c.limit_at.ensures.limit in
    let flow_is = c.in_ok-flow.ensures.flow ∙ ap (λ k. flow_by m k r) c.carried_flows.ensures.is ∙ law_of_row_flows m (empty m) (map g.N.Exact.value c.args.base_flows.now) r c.lines-lines.ensures.market c.requires.base_flows c.requires.row in
    let given : c.from_residual-in_err-low.result ≡ Err c.in_err-low.field-0.0 = search rules in
    rw given (of_bound c.args.row c.requires.row (Contains-head c.args.row []) (of_low (refusal g.N.Exact.value g.N.Exact.bound Minus c.neg.result c.in_ok-flow.flow (neg_ℚ (limit m r)) (flow m (empty m) r) c.in_err-low.field-0.0 (c.neg.ensures ∙ ap neg_ℚ limit_is) flow_is c.in_err-low.ensures)))

pub returns-clause-low : goal.returns-clause-low
returns-clause-low g c =
    let m = c.args.market.now in
    let r = c.args.row in
    let known : to_z w64 (of_z w64 c.limit_at.result) ≡ c.limit_at.result = to_z-of_z w64 c.limit_at.result (record { sfits = c.limit_at.type_inv }) in
    let limit_is = c.datum-limit.ensures ∙ ap whole known ∙ c.limit_at.ensures.limit in
    let flow_is = c.in_ok-flow.ensures.flow ∙ ap (λ k. flow_by m k r) c.carried_flows.ensures.is ∙ law_of_row_flows m (empty m) (map g.N.Exact.value c.args.base_flows.now) r c.lines-lines.ensures.market c.requires.base_flows c.requires.row in
    c.in_ok-low.ensures.exact ∙ ap₂ ◌-ℚ◌ (c.neg.ensures ∙ ap neg_ℚ limit_is) flow_is

pub returns-clause-high : goal.returns-clause-high
returns-clause-high g c =
    let m = c.args.market.now in
    let r = c.args.row in
    let known : to_z w64 (of_z w64 c.limit_at.result) ≡ c.limit_at.result = to_z-of_z w64 c.limit_at.result (record { sfits = c.limit_at.type_inv }) in
    let limit_is = c.datum-limit.ensures ∙ ap whole known ∙ c.limit_at.ensures.limit in
    let flow_is = c.in_ok-flow.ensures.flow ∙ ap (λ k. flow_by m k r) c.carried_flows.ensures.is ∙ law_of_row_flows m (empty m) (map g.N.Exact.value c.args.base_flows.now) r c.lines-lines.ensures.market c.requires.base_flows c.requires.row in
    c.in_ok-high.ensures.exact ∙ ap₂ ◌-ℚ◌ limit_is flow_is
