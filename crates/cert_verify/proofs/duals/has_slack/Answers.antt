use Rattle.std.proofs.Common.{rules, Err, ◌≡◌, ◌∙◌, ap, sym, map}
use Rattle.std.proofs.lemmas.Result.{IfOk-weaker, IfErr-weaker}
use Rattle.fraction_theory.specs.Fraction.{Fraction}
use Rattle.market_model.specs.Valued.{dual_at, passed_at}
use Rattle.market_model.proofs.RowMembers.{at_places}
use Rattle.cert_sums.proofs.CarriedLemmas.{flow_there, refused_there}
use Rattle.cert_verify.specs.Reasons.{breaks_row}
use Rattle.cert_verify.specs.Stops.{of_most}
use Rattle.cert_verify.proofs.RowLemmas.{limit_pair, no_slack, slack_named}
use Rattle.cert_verify.proofs.duals.has_slack.Goals as goal

pub row_flow-requires-clause-line : goal.row_flow-requires-clause-line
row_flow-requires-clause-line g c = (at_places c.args.market.now c.lines-lines.ensures.market c.in-Some.row c.in-Some.ensures.0).0

pub row_flow-requires-clause-lost : goal.row_flow-requires-clause-lost
row_flow-requires-clause-lost g c = (at_places c.args.market.now c.lines-lines.ensures.market c.in-Some.row c.in-Some.ensures.0).1

pub returns-in_err-flow-in-Some-clause-stops : goal.returns-in_err-flow-in-Some-clause-stops
returns-in_err-flow-in-Some-clause-stops g c =
    let given : c.from_residual.result ≡ Err c.in_err-flow-in-Some.field-0.0 = search rules in
    let places = at_places c.args.market.now c.lines-lines.ensures.market c.in-Some.row c.in-Some.ensures.0 in
    λ x are. rw given
    (limit_pair c.args.market.now x c.in-Some.row g.N.Exact.bound (passed_at g.N.Exact.value c.in_err-flow-in-Some.field-0.0) c.in-Some.ensures.0
    (refused_there c.args.market.now x (map g.N.Exact.value c.args.carried.now) are c.in-Some.row places.0 places.1 g.N.Exact.bound (passed_at g.N.Exact.value c.in_err-flow-in-Some.field-0.0) c.in_err-flow-in-Some.ensures.stops))

pub breaks_row-requires : goal.breaks_row-requires
breaks_row-requires g c = (at_places c.args.market.now c.lines-lines.ensures.market c.in-Some.row c.in-Some.ensures.0).0

pub returns-in_ok-flow-in-Some-clause-slack : goal.returns-in_ok-flow-in-Some-clause-slack
returns-in_ok-flow-in-Some-clause-slack g c =
    let m = c.args.market.now in
    let e = dual_at g.N.Exact.value c.args.dual.now in
    let places = at_places m c.lines-lines.ensures.market c.in-Some.row c.in-Some.ensures.0 in
    λ x are.
    let flow = c.in_ok-flow-in-Some.ensures.flow ∙ flow_there m x (map g.N.Exact.value c.args.carried.now) are c.in-Some.row places.0 places.1 in
    let named = slack_named m c.lines-lines.ensures.market x e c.in-Some.row c.in-Some.ensures.0 c.in-Some.ensures.1 in
    IfOk-weaker c.breaks_row.result _ _ (λ b h. h ∙ ap (λ (f : Fraction). breaks_row m c.in-Some.row e.up e.down f) flow ∙ sym named) c.breaks_row.ensures.broken

pub returns-in_ok-flow-in-Some-clause-stops : goal.returns-in_ok-flow-in-Some-clause-stops
returns-in_ok-flow-in-Some-clause-stops g c = λ x are. IfErr-weaker c.breaks_row.result _ _ (λ p h. of_most c.in-Some.row c.in-Some.ensures.0 h) c.breaks_row.ensures.stops

pub returns-in-None-clause-slack : goal.returns-in-None-clause-slack
returns-in-None-clause-slack g c =
    let none = rw c.in-None.is at c.row_named.ensures in
    λ x are. sym (no_slack c.args.market.now x (dual_at g.N.Exact.value c.args.dual.now) none)
