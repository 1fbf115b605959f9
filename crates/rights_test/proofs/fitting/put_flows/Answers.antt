use Rattle.std.proofs.Common.{rules, Err, ◌≡◌, ◌∙◌, ap, length, map}
use Rattle.std.proofs.lemmas.Result.{IfOk-weaker, IfErr-weaker}
use Rattle.market_model.specs.Dispatch.{places}
use Rattle.market_model.specs.Rights.{rights_injection}
use Rattle.market_model.specs.Valued.{passed_at}
use Rattle.rights_test.specs.Fits.{rights_at_bus, rights_on_line}
use Rattle.rights_test.proofs.FitLemmas.{flows_put, line_refusal, lines_put}
use Rattle.rights_test.proofs.fitting.put_flows.Goals as goal

pub returns-in_err-put_rights-clause-stops : goal.returns-in_err-put_rights-clause-stops
returns-in_err-put_rights-clause-stops g c =
    let given : c.from_residual.result ≡ Err c.in_err-put_rights.field-0.0 = search rules in
    let sum = rw c.requires.by_bus at c.in_err-put_rights.ensures.stops in
    rw given (sum.0, rights_at_bus sum.0 sum.1, sum.2)

pub returns-clause-flows : goal.returns-clause-flows
returns-clause-flows g c =
    let m = c.args.market.now in
    let value = g.N.Exact.value in
    let rights = c.args.rights.now in
    let mws = map value c.put_rights.new.out in
    let puts : mws ≡ map (rights_injection rights) (places (length m.buses)) = rw c.requires.by_bus at c.in_ok-put_rights.ensures.injections in
    let split = c.split_at_mut-by_line.ensures in
    IfOk-weaker c.put_line_flows.result _ _
    (λ _ e. flows_put value m rights c.args.out.now c.split_at_mut-by_line.result.0.now c.split_at_mut-by_line.result.1.now c.put_line_flows.new.out c.requires.out split.value
    (split.front_len ∙ c.len.ensures ∙ ap length c.lines.ensures.list) (lines_put m rights mws puts (map value c.put_line_flows.new.out) e))
    c.put_line_flows.ensures.flows

pub returns-clause-stops : goal.returns-clause-stops
returns-clause-stops g c =
    let m = c.args.market.now in
    let mws = map g.N.Exact.value c.put_rights.new.out in
    let puts : mws ≡ map (rights_injection c.args.rights.now) (places (length m.buses)) = rw c.requires.by_bus at c.in_ok-put_rights.ensures.injections in
    IfErr-weaker c.put_line_flows.result _ _
    (λ e h. let why = line_refusal m c.args.rights.now mws puts g.N.Exact.bound (passed_at g.N.Exact.value e) h in (why.0, rights_on_line why.0 why.1, why.2))
    c.put_line_flows.ensures.stops
