use Rattle.std.proofs.Common.{◌≡◌, take, pos, unsigned_abs}
use Rattle.std.specs.Prelude.{sum_by}
use Rattle.factor_residuals.specs.Kirchhoff.{loop_miss, reactance_at}
use Rattle.factor_residuals.specs.Columns.{IsLoopSum, flows_of}
use Rattle.factor_residuals.proofs.loop_sums.loop_spot.Given as goal

abbrev pub invariant-loop-member : goal.invariant-loop-member
invariant-loop-member g l = IsLoopSum l.member-index l.loop_sum
    × (l.loop_sum.miss ≡ loop_miss (reactance_at l.network l.reactances) (flows_of l.factors l.column.name) (take l.member-index l.members))
    × (l.loop_sum.sizes ≡ pos (sum_by (λ m. unsigned_abs (reactance_at l.network l.reactances m.branch)) (take l.member-index l.members)))
