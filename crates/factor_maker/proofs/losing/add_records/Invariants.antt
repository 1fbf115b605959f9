use Rattle.std.proofs.Common.{◌≡◌, ◌++◌, map}
use Rattle.factor_residuals.specs.Residuals.{places_below}
use Rattle.factor_maker.specs.Columns.{made_of}
use Rattle.factor_maker.proofs.losing.add_records.Given as goal

abbrev pub invariant-loop-place : goal.invariant-loop-place
invariant-loop-place l = l.records ≡ l.initial.records ++ map (made_of l.branches l.of l.units) (places_below l.place)
