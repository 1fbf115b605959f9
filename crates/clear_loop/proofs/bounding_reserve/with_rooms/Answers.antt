use Rattle.std.proofs.Common.{rules, Err, ◌≡◌, ◌<◌, ◌∙◌, ap, arith, length}
use Rattle.market_model.specs.Valued.{duals_at, passed_at}
use Rattle.clear_loop.proofs.FarkasSums.{room_refused, room_step, rooms_all, rooms_none}
use Rattle.clear_loop.proofs.bounding_reserve.with_rooms.Goals as goal

pub loop-unit-init : goal.loop-unit-init
loop-unit-init g c = rooms_none c.args.market.now (duals_at g.N.Exact.value c.args.duals.now) (g.N.Exact.value c.args.of_need) c.requires

pub loop-unit-preserved : goal.loop-unit-preserved
loop-unit-preserved g c =
    room_step c.args.market.now (duals_at g.N.Exact.value c.args.duals.now) c.loop-unit.unit (g.N.Exact.value c.loop-unit.sum) _ c.loop-unit.invariant c.in_ok-sum.ensures.sum

pub returns-in_err-sum-clause-stops : goal.returns-in_err-sum-clause-stops
returns-in_err-sum-clause-stops g c =
    let m = c.args.market.now in
    let value = g.N.Exact.value in
    let below : c.loop-unit.unit < length m.units = omega (arith, c.loop-unit-test.true, c.len-unit-end.ensures, ap length c.units.ensures.list) in
    let given : c.from_residual.result ≡ Err c.in_err-sum.field-0.0 = search rules in
    rw given
    (room_refused m (duals_at value c.args.duals.now) c.loop-unit.unit (value c.loop-unit.sum) g.N.Exact.bound (passed_at value c.in_err-sum.field-0.0) below c.in_err-sum.ensures.offers c.loop-unit.invariant
    c.in_err-sum.ensures.stops)

pub returns-clause-sum : goal.returns-clause-sum
returns-clause-sum g c =
    let m = c.args.market.now in
    let all : c.loop-unit.unit ≡ length m.units = omega (arith, c.loop-unit-test.false, c.loop-unit.auto.unit-end, c.len-unit-end.ensures, ap length c.units.ensures.list) in
    c.loop-unit.invariant ∙ rw all (rooms_all m (duals_at g.N.Exact.value c.args.duals.now))
