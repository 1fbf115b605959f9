use Rattle.std.proofs.Common.{◌≡◌, ◌∙◌, ap, map, subst, sym}
use Rattle.std.specs.Prelude.{IfOk}
use Rattle.std.proofs.lemmas.List.{length-map}
use Rattle.fraction_theory.specs.Fraction.{Fraction}
use Rattle.market_model.specs.LimitRows.{Carried, carried, flow, flow_by}
use Rattle.market_model.specs.SumTables.{IsFlowRefusal}
use Rattle.market_model.specs.Valued.{passed_at}
use Rattle.market_model.proofs.RowMembers.{at_places}
use Rattle.limit_screen.specs.Flows.{carried_at}
use Rattle.limit_screen.proofs.ScreenLemmas.{flow_count, law_of_row_flows}
use Rattle.price_search.specs.PriceBounds.{dispatch_at}
use Rattle.std.proofs.lemmas.Result.{IfErr-weaker}
use Rattle.price_search.proofs.RowLemmas.{is_row, refused_there}
use Rattle.price_search.proofs.posing.reached_flow.Goals as goal

pub carried_flows-requires : goal.carried_flows-requires
carried_flows-requires g c =
    let x = dispatch_at g.N.Exact.value c.args.point in
    sym (length-map c.args.point.flows.now g.N.Exact.value) ∙ flow_count c.args.market.now x (map g.N.Exact.value c.args.point.flows.now) c.requires.point.flows

pub row_flow-requires-clause-line : goal.row_flow-requires-clause-line
row_flow-requires-clause-line g c =
    let m = c.args.market.now in
    (at_places m c.lines-lines.ensures.market c.args.row (is_row m (dispatch_at g.N.Exact.value c.args.point) c.args.row c.requires.row)).0

pub row_flow-requires-clause-lost : goal.row_flow-requires-clause-lost
row_flow-requires-clause-lost g c =
    let m = c.args.market.now in
    (at_places m c.lines-lines.ensures.market c.args.row (is_row m (dispatch_at g.N.Exact.value c.args.point) c.args.row c.requires.row)).1

pub returns-clause-flow : goal.returns-clause-flow
returns-clause-flow g c =
    let m = c.args.market.now in
    let r = c.args.row in
    let value = g.N.Exact.value in
    let x = dispatch_at value c.args.point in
    let is : flow_by m (carried_at m (map value c.args.point.flows.now)) r ≡ flow m x r = law_of_row_flows m x (map value c.args.point.flows.now) r c.lines-lines.ensures.market c.requires.point.flows (is_row m x r c.requires.row) in
    subst (λ (y : Fraction). IfOk c.row_flow.result (λ mw. value mw ≡ y)) (ap (λ (k : Carried). flow_by m k r) c.carried_flows.ensures.is ∙ is) c.row_flow.ensures.flow

pub returns-clause-stops : goal.returns-clause-stops
returns-clause-stops g c =
    let m = c.args.market.now in
    let r = c.args.row in
    let value = g.N.Exact.value in
    let x = dispatch_at value c.args.point in
    let fs = map value c.args.point.flows.now in
    IfErr-weaker c.row_flow.result _ (λ e. IsFlowRefusal m (carried m x) r g.N.Exact.bound (passed_at value e))
    (λ e h. refused_there m x fs c.requires.point.flows r g.N.Exact.bound (passed_at value e) c.lines-lines.ensures.market c.requires.row (subst (λ (k : Carried). IsFlowRefusal m k r g.N.Exact.bound (passed_at value e)) c.carried_flows.ensures.is h))
    c.row_flow.ensures.stops
