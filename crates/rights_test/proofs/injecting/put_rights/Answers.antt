use Rattle.std.proofs.Common.{rules, Err, ◌≡◌, length, arith}
use Rattle.market_model.specs.Rights.{rights_injection}
use Rattle.market_model.proofs.PlaceLists.{put_more, all_put}
use Rattle.rights_test.specs.Fits.{put_by_rights}
use Rattle.rights_test.proofs.injecting.put_rights.Goals as goal

pub loop-bus-preserved : goal.loop-bus-preserved
loop-bus-preserved g c =
    put_more g.N.Exact.value (rights_injection c.args.rights.now) c.loop-bus.out c.loop-bus.bus c.in_ok-mw.field-0
    (omega (arith, c.loop-bus-test.true, c.loop-bus.auto.out)) c.loop-bus.invariant c.in_ok-mw.ensures.sum

pub returns-clause-injections : goal.returns-clause-injections
returns-clause-injections g c =
    all_put g.N.Exact.value (rights_injection c.args.rights.now) c.loop-bus.out c.loop-bus.bus (length c.args.out.now)
    c.loop-bus.auto.out (omega (arith, c.loop-bus-test.false)) c.loop-bus.invariant

pub returns-in_err-mw-clause-stops : goal.returns-in_err-mw-clause-stops
returns-in_err-mw-clause-stops g c =
    let given : c.from_residual.result ≡ Err c.in_err-mw.field-0.0 = search rules in
    rw given (_, put_by_rights c.loop-bus.bus (omega (arith, c.loop-bus-test.true)), c.in_err-mw.ensures.stops)
