use Rattle.std.proofs.Common.{◌++◌, List, map, take}
use Rattle.factor_residuals.specs.declared.spots.Spot.{Spot}
use Rattle.factor_residuals.specs.Kirchhoff.{loop_spot, reactance_at}
use Rattle.factor_residuals.specs.Columns.{column_of}
use Rattle.factor_residuals.specs.Residuals.{IsResidual}
use Rattle.factor_residuals.proofs.loop_sums.note_loops.Given as goal

abbrev pub invariant-loop-members : goal.invariant-loop-members
invariant-loop-members g l = (spots : List Spot) → IsResidual spots l.fn.residual
    → IsResidual (spots ++ map (loop_spot (reactance_at l.network l.reactances) (column_of l.network l.factors l.column)) (take l.members-index l.loops)) l.residual
