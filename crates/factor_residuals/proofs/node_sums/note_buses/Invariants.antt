use Rattle.std.proofs.Common.{◌++◌, List, map}
use Rattle.factor_residuals.specs.declared.spots.Spot.{Spot}
use Rattle.factor_residuals.specs.Kirchhoff.{bus_spot}
use Rattle.factor_residuals.specs.Columns.{column_of}
use Rattle.factor_residuals.specs.Residuals.{IsResidual, places_below}
use Rattle.factor_residuals.proofs.node_sums.note_buses.Given as goal

abbrev pub invariant-loop-bus : goal.invariant-loop-bus
invariant-loop-bus g l = (spots : List Spot) → IsResidual spots l.fn.residual → IsResidual (spots ++ map (bus_spot l.network (column_of l.network l.factors l.column)) (places_below l.bus)) l.residual
