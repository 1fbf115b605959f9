use Rattle.std.proofs.Common.{◌≡◌, ◌++◌, ◌∷◌, [], map, take}
use Rattle.std.specs.List.{flat_map}
use Rattle.price_system.specs.declared.variables.Variable.TheVariants.{Energy, Reserve, Room}
use Rattle.price_system.specs.PriceSystem.{two_sides}
use Rattle.price_dict.proofs.reached.columns_of.Given as goal

abbrev pub invariant-loop-row : goal.invariant-loop-row
invariant-loop-row l = l.columns ≡ (Energy ∷ Reserve ∷ []) ++ flat_map two_sides (take l.row-index l.reached.rows.now)

abbrev pub invariant-loop-unit : goal.invariant-loop-unit
invariant-loop-unit l = l.columns ≡ (Energy ∷ Reserve ∷ []) ++ (flat_map two_sides l.reached.rows.now ++ map Room (take l.unit-index l.reached.units.now))
