use Rattle.std.proofs.Common.{◌≡◌, ◌++◌, map}
use Rattle.factor_residuals.specs.Residuals.{places_below}
use Rattle.factor_maker.specs.Columns.{shift_made}
use Rattle.factor_maker.proofs.shifting.add_records.Given as goal

abbrev pub invariant-loop-bus : goal.invariant-loop-bus
invariant-loop-bus l = l.records ≡ l.initial.records ++ map (shift_made l.network l.columns l.place) (places_below l.bus)
