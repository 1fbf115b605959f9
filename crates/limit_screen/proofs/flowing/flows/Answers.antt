use Rattle.std.proofs.Common.{rules, Err, ◌≡◌, ◌++◌, ◌∙◌, ap₂, map}
use Rattle.std.proofs.lemmas.List.{map-append}
use Rattle.std.proofs.lemmas.Result.{IfOk-weaker, IfErr-weaker}
use Rattle.market_model.specs.PutIn.{dispatch_of}
use Rattle.market_model.specs.Valued.{passed_at}
use Rattle.limit_rows.proofs.FlowSteps.{lines_put, line_refusal}
use Rattle.market_model.specs.SumTables.{carried_by_unit, carried_on_line, put_in_at_bus, carried_by_network}
use Rattle.limit_screen.proofs.flowing.flows.Goals as goal

pub returns-clause-flows : goal.returns-clause-flows
returns-clause-flows g c =
    let m = c.args.market.now in
    let value = g.N.Exact.value in
    let x = dispatch_of value c.args.dispatch.now in
    let mws = map value c.injections.new.out in
    let lines = lines_put m x mws c.in_ok-injections.ensures.injections (map value c.put_line_flows.new.out) c.in_ok-put_line_flows.ensures.flows in
    IfOk-weaker c.put_lost_outputs.result _ _
    (λ _ e.
    map-append value c.injections.new.out (c.put_line_flows.new.out ++ c.put_lost_outputs.new.out)
    ∙ ap₂ ◌++◌ c.in_ok-injections.ensures.injections (map-append value c.put_line_flows.new.out c.put_lost_outputs.new.out ∙ ap₂ ◌++◌ lines e))
    c.put_lost_outputs.ensures.outputs

pub returns-clause-stops : goal.returns-clause-stops
returns-clause-stops g c =
    IfErr-weaker c.put_lost_outputs.result _ _
    (λ e why. (why.0, carried_by_network why.0 (carried_by_unit why.0 why.1), why.2))
    c.put_lost_outputs.ensures.stops

pub returns-in_err-injections-clause-stops : goal.returns-in_err-injections-clause-stops
returns-in_err-injections-clause-stops g c =
    let given : c.from_residual.result ≡ Err c.in_err-injections.field-0.0 = search rules in
    let why = c.in_err-injections.ensures.stops in
    rw given (why.0, put_in_at_bus why.0 why.1, why.2)

pub returns-in_err-put_line_flows-clause-stops : goal.returns-in_err-put_line_flows-clause-stops
returns-in_err-put_line_flows-clause-stops g c =
    let m = c.args.market.now in
    let x = dispatch_of g.N.Exact.value c.args.dispatch.now in
    let mws = map g.N.Exact.value c.injections.new.out in
    let given : c.from_residual-in_err-put_line_flows.result ≡ Err c.in_err-put_line_flows.field-0.0 = search rules in
    let why = line_refusal m x mws c.in_ok-injections.ensures.injections g.N.Exact.bound (passed_at g.N.Exact.value c.in_err-put_line_flows.field-0.0) c.in_err-put_line_flows.ensures.stops in
    rw given (why.0, carried_by_network why.0 (carried_on_line why.0 why.1), why.2)
