use Rattle.std.proofs.Common.{rules, Err, ◌≡◌, ◌∙◌, ap, map, inr}
use Rattle.market_model.specs.LimitRows.{flow_by}
use Rattle.market_model.specs.PutIn.{carried_in}
use Rattle.market_model.specs.Valued.{passed_at}
use Rattle.market_model.specs.declared.stops.Stop.TheVariants as why
use Rattle.market_model.specs.Rights.{carried_for}
use Rattle.rights_test.specs.Fits.{fit_at}
use Rattle.rights_test.proofs.FitLemmas.{carried_count, fit_same, row_flow_is, row_refusal}
use Rattle.rights_test.proofs.fitting.fit.Goals as goal

pub first_broken-requires : goal.first_broken-requires
first_broken-requires g c = carried_count g.N.Exact.value c.args.market.now c.args.rights.now c.deref.result.now (ap (map g.N.Exact.value) c.deref.ensures.value ∙ c.in_ok-carried.ensures.flows)

pub returns-in_err-fit-clause-stops : goal.returns-in_err-fit-clause-stops
returns-in_err-fit-clause-stops g c =
    let m = c.args.market.now in
    let value = g.N.Exact.value in
    let given : c.from_residual-in_err-fit.result ≡ Err (why.Passed c.in_err-fit.field-0.0) = search rules in
    let are = ap (map value) c.deref.ensures.value ∙ c.in_ok-carried.ensures.flows in
    let refused = c.in_err-fit.ensures.stops in
    rw given (inr (refused.0, refused.1, row_refusal m c.args.rights.now (map value c.deref.result.now) are c.lines-lines.ensures.market refused.0 g.N.Exact.bound (passed_at value c.in_err-fit.field-0.0) refused.1 refused.2))

pub returns-clause-fit : goal.returns-clause-fit
returns-clause-fit g c =
    let m = c.args.market.now in
    let value = g.N.Exact.value in
    let mws = map value c.deref.result.now in
    let are = ap (map value) c.deref.ensures.value ∙ c.in_ok-carried.ensures.flows in
    fit_same m (flow_by m (carried_in m mws)) (flow_by m (carried_for m c.args.rights.now)) (fit_at value c.in_ok-fit.fit) (row_flow_is m c.args.rights.now mws are c.lines-lines.ensures.market) c.in_ok-fit.ensures.fit
