use Rattle.std.proofs.Common.{◌++◌, List, map, take}
use Rattle.price_system.specs.declared.variables.Variable.{Variable}
use Rattle.price_system.specs.declared.variables.Variable.TheVariants.{Room}
use Rattle.price_search.specs.Points.{caps_at}
use Rattle.price_search.specs.PriceBounds.{AreBounds, dispatch_at}
use Rattle.price_search.proofs.posing.push_room_bounds.Given as goal

abbrev pub invariant-loop-unit : goal.invariant-loop-unit
invariant-loop-unit g l =
    let value = g.N.Exact.value in
    let x = dispatch_at value l.fn.point in
    let c = caps_at value l.fn.caps in
    (vs : List Variable) → AreBounds value l.market x c vs l.initial.bounds → AreBounds value l.market x c (vs ++ map Room (take l._unit-index l.fn.point.reached.units.now)) l.bounds
