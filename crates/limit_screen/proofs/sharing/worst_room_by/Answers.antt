use Rattle.std.proofs.Common.{arith, ◌≤◌, length}
use Rattle.market_model.specs.Reserves.{offers_reserve, room_used}
use Rattle.limit_screen.proofs.RoomLemmas.{keep_rooms, worst_of_all}
use Rattle.limit_screen.proofs.UseLemmas.{sum_read}
use Rattle.limit_screen.proofs.sharing.worst_room_by.Goals as goal

pub loop-unit-preserved : goal.loop-unit-preserved
loop-unit-preserved g c = λ x are.
    let m = c.args.market.now in
    c.in_ok-worst.ensures.worst x
    (sum_read g.N.Exact.value (offers_reserve m) (room_used m x) (length m.units) c.loop-unit.unit c.args.used.now c.index-used-unit.result are c.loop-unit-test.true c.index-used-unit.is)
    (c.loop-unit.invariant x are)

pub returns-in-Some-clause-worst : goal.returns-in-Some-clause-worst
returns-in-Some-clause-worst g c = λ x are.
    let m = c.args.market.now in
    let some = rw c.in-Some.is at c.loop-unit.invariant x are in
    let all : length m.units ≤ c.loop-unit.unit = omega (arith, c.loop-unit-test.false, c.requires) in
    worst_of_all m x c.loop-unit.unit all c.in-Some.broken.unit some.0

pub returns-in-None-clause-worst : goal.returns-in-None-clause-worst
returns-in-None-clause-worst g c = λ x are.
    let m = c.args.market.now in
    let none = rw c.in-None.is at c.loop-unit.invariant x are in
    let all : length m.units ≤ c.loop-unit.unit = omega (arith, c.loop-unit-test.false, c.requires) in
    keep_rooms m x c.loop-unit.unit all none
