use Rattle.std.proofs.Common.{◌∙◌, ◌<◌, length, map, arith}
use Rattle.std.proofs.lemmas.Result.{err_from_is_err_and}
use Rattle.market_model.specs.LimitRows.{line_flow}
use Rattle.market_model.specs.PutIn.{put_in}
use Rattle.market_model.specs.SumTables.{flow_of_line}
use Rattle.market_model.proofs.PlaceLists.{put_more, all_put}
use Rattle.limit_rows.proofs.flowing.put_line_flows.Goals as goal

pub loop-line-preserved : goal.loop-line-preserved
loop-line-preserved g c =
    put_more g.N.Exact.value (line_flow c.args.market.now (put_in (map g.N.Exact.value c.args.injections.now))) c.loop-line.out c.loop-line.line c.in_ok-mw.field-0
    (omega (arith, c.loop-line-test.true, c.loop-line.auto.out)) c.loop-line.invariant c.in_ok-mw.ensures.flow

pub returns-clause-flows : goal.returns-clause-flows
returns-clause-flows g c =
    all_put g.N.Exact.value (line_flow c.args.market.now (put_in (map g.N.Exact.value c.args.injections.now))) c.loop-line.out c.loop-line.line (length c.args.market.now.lines)
    (c.loop-line.auto.out ∙ c.requires.out) (omega (arith, c.loop-line-test.false, c.requires.out)) c.loop-line.invariant

pub returns-in_err-mw-clause-stops : goal.returns-in_err-mw-clause-stops
returns-in_err-mw-clause-stops g c =
    let told = err_from_is_err_and c.from_residual.result c.from_residual.ensures.1 in
    let inside : c.loop-line.line < length c.args.market.now.lines = omega (arith, c.loop-line-test.true, c.requires.out) in
    rw (told.1, told.2) (_, flow_of_line c.loop-line.line inside, c.in_err-mw.ensures.stops)
