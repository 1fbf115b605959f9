use Rattle.std.proofs.Common.{◌≡◌, ◌++◌, ◌∷◌, [], map, take}
use Rattle.std.specs.List.{flat_map}
use Rattle.price_system.specs.declared.variables.Variable.TheVariants.{Energy, Reserve, Room}
use Rattle.price_system.specs.PriceSystem.{column_price, two_sides}
use Rattle.price_search.proofs.posing.column_prices.Given as goal

abbrev pub invariant-loop-row : goal.invariant-loop-row
invariant-loop-row g l = map g.N.Exact.value l.prices ≡ map column_price ((Energy ∷ Reserve ∷ []) ++ flat_map two_sides (take l._row-index l.fn.point.reached.rows.now))

abbrev pub invariant-loop-unit : goal.invariant-loop-unit
invariant-loop-unit g l =
    map g.N.Exact.value l.prices ≡ map column_price (((Energy ∷ Reserve ∷ []) ++ flat_map two_sides l.fn.point.reached.rows.now) ++ map Room (take l._unit-index l.fn.point.reached.units.now))
