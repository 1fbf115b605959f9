use Rattle.std.proofs.Common.{rules, Err, ◌≡◌, ◌∙◌, length, arith}
use Rattle.market_model.specs.Dispatch.{injection}
use Rattle.market_model.specs.PutIn.{dispatch_of}
use Rattle.market_model.specs.SumTables.{injection_at}
use Rattle.market_model.proofs.PlaceLists.{put_more, all_put}
use Rattle.market_model.proofs.putting.injections.Goals as goal

pub loop-bus-preserved : goal.loop-bus-preserved
loop-bus-preserved g c =
    put_more g.N.Exact.value (injection c.args.market.now (dispatch_of g.N.Exact.value c.args.dispatch.now)) c.loop-bus.out c.loop-bus.bus c.in_ok-mw.field-0
    (omega (arith, c.loop-bus-test.true, c.loop-bus.auto.out)) c.loop-bus.invariant c.in_ok-mw.ensures.sum

pub returns-clause-injections : goal.returns-clause-injections
returns-clause-injections g c =
    all_put g.N.Exact.value (injection c.args.market.now (dispatch_of g.N.Exact.value c.args.dispatch.now)) c.loop-bus.out c.loop-bus.bus (length c.args.market.now.buses)
    (c.loop-bus.auto.out ∙ c.requires.out) (omega (arith, c.loop-bus-test.false, c.requires.out)) c.loop-bus.invariant

pub returns-in_err-mw-clause-stops : goal.returns-in_err-mw-clause-stops
returns-in_err-mw-clause-stops g c =
    let given : c.from_residual.result ≡ Err c.in_err-mw.field-0.0 = search rules in
    rw given (_, injection_at c.loop-bus.bus (omega (arith, c.loop-bus-test.true, c.requires.out)), c.in_err-mw.ensures.stops)
