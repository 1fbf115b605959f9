use Rattle.std.proofs.Common.{◌≡◌}
use Rattle.std.specs.Prelude.{true, false}
use Rattle.limit_rows.specs.Counting.{limits_to}
use Rattle.limit_rows.proofs.counting.limit_counts.Given as goal

abbrev pub invariant-loop-place : goal.invariant-loop-place
invariant-loop-place l = (l.base ≡ limits_to l.market false l.place) × (l.post ≡ limits_to l.market true l.place)
