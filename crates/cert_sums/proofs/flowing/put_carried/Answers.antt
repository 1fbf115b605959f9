use Rattle.std.proofs.Common.{rules, Err, ◌≡◌, ◌++◌, ◌∙◌, ap₂, map}
use Rattle.std.proofs.lemmas.List.{map-append}
use Rattle.std.proofs.lemmas.Result.{IfOk-weaker, IfErr-weaker}
use Rattle.market_model.specs.PutIn.{dispatch_of}
use Rattle.market_model.specs.Valued.{passed_at}
use Rattle.market_model.specs.SumTables.{carried_on_line, carried_by_unit}
use Rattle.limit_rows.proofs.FlowSteps.{lines_put, line_refusal}
use Rattle.cert_sums.proofs.flowing.put_carried.Goals as goal

pub returns-clause-carried : goal.returns-clause-carried
returns-clause-carried g c = λ puts.
    let m = c.args.market.now in
    let value = g.N.Exact.value in
    let x = dispatch_of value c.args.dispatch.now in
    IfOk-weaker c.put_lost_outputs.result _ _
    (λ _ e.
    map-append value c.put_line_flows.new.out c.put_lost_outputs.new.out
    ∙ ap₂ ◌++◌ (lines_put m x (map value c.args.injections.now) puts (map value c.put_line_flows.new.out) c.in_ok-put_line_flows.ensures.flows) e)
    c.put_lost_outputs.ensures.outputs

pub returns-in_err-put_line_flows-clause-stops : goal.returns-in_err-put_line_flows-clause-stops
returns-in_err-put_line_flows-clause-stops g c = λ puts.
    let m = c.args.market.now in
    let value = g.N.Exact.value in
    let x = dispatch_of value c.args.dispatch.now in
    let given : c.from_residual.result ≡ Err c.in_err-put_line_flows.field-0.0 = search rules in
    let why = line_refusal m x (map value c.args.injections.now) puts g.N.Exact.bound (passed_at value c.in_err-put_line_flows.field-0.0) c.in_err-put_line_flows.ensures.stops in
    rw given (why.0, carried_on_line why.0 why.1, why.2)

pub returns-clause-stops : goal.returns-clause-stops
returns-clause-stops g c = λ puts. IfErr-weaker c.put_lost_outputs.result _ _ (λ p why. (why.0, carried_by_unit why.0 why.1, why.2)) c.put_lost_outputs.ensures.stops
