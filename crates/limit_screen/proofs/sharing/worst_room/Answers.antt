use Rattle.std.proofs.Common.{arith, ◌≤◌, length, map, ap}
use Rattle.market_model.specs.Dispatch.{dispatch_with}
use Rattle.limit_screen.proofs.RoomLemmas.{keep_rooms, worst_of_all}
use Rattle.limit_screen.proofs.sharing.worst_room.Goals as goal

pub returns-in-Some-clause-worst : goal.returns-in-Some-clause-worst
returns-in-Some-clause-worst g c =
    let m = c.args.market.now in
    let value = g.N.Exact.value in
    let some = rw c.in-Some.is at c.loop-unit.invariant in
    let all : length m.units ≤ c.loop-unit.unit = omega (arith, c.loop-unit-test.false, c.len-unit-end.ensures, ap length c.units.ensures.list) in
    worst_of_all m (dispatch_with (map value c.args.dispatch.now) (map value c.args.reserve.now)) c.loop-unit.unit all c.in-Some.broken.unit some.0

pub returns-in-None-clause-worst : goal.returns-in-None-clause-worst
returns-in-None-clause-worst g c =
    let m = c.args.market.now in
    let value = g.N.Exact.value in
    let none = rw c.in-None.is at c.loop-unit.invariant in
    let all : length m.units ≤ c.loop-unit.unit = omega (arith, c.loop-unit-test.false, c.len-unit-end.ensures, ap length c.units.ensures.list) in
    keep_rooms m (dispatch_with (map value c.args.dispatch.now) (map value c.args.reserve.now)) c.loop-unit.unit all none
