use Rattle.std.proofs.Common.{map}
use Rattle.std.specs.List.{flat_map}
use Rattle.factor_residuals.specs.Residuals.{IsResidual, places_below, loop_spots, shift_column}
use Rattle.factor_residuals.proofs.residuals.loop_residual.Given as goal

abbrev pub invariant-loop-place : goal.invariant-loop-place
invariant-loop-place l = IsResidual (flat_map (loop_spots l.network l.reactances l.loops) (map (shift_column l.network l.shift) (places_below l.place))) l.residual
