use Rattle.std.proofs.Common.{◌++◌, List, take}
use Rattle.std.specs.List.{flat_map}
use Rattle.price_system.specs.declared.variables.Variable.{Variable}
use Rattle.price_system.specs.PriceSystem.{two_sides}
use Rattle.price_search.specs.Points.{caps_at}
use Rattle.price_search.specs.PriceBounds.{AreBounds, dispatch_at}
use Rattle.price_search.proofs.posing.push_limit_bounds.Given as goal

abbrev pub invariant-loop-row : goal.invariant-loop-row
invariant-loop-row g l =
    let value = g.N.Exact.value in
    let x = dispatch_at value l.fn.point in
    let c = caps_at value l.fn.caps in
    (vs : List Variable) → AreBounds value l.market x c vs l.initial.bounds → AreBounds value l.market x c (vs ++ flat_map two_sides (take l.row-index l.fn.point.reached.rows.now)) l.bounds
