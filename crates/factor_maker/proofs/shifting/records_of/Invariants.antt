use Rattle.std.proofs.Common.{◌≡◌, length, map}
use Rattle.std.specs.List.{flat_map}
use Rattle.factor_residuals.specs.Residuals.{places_below}
use Rattle.factor_maker.specs.Columns.{shift_made}
use Rattle.factor_maker.proofs.shifting.records_of.Given as goal

abbrev pub invariant-loop-place : goal.invariant-loop-place
invariant-loop-place l = l.records ≡ flat_map (λ b. map (shift_made l.network l.columns b) (places_below (length l.network.buses))) (places_below l.place)
