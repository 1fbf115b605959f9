use Rattle.std.specs.Prelude.{◌+◌, ◌<◌, ℕ}
use Rattle.fraction_theory.specs.Order.{◌≤ℚ◌}
use Rattle.cost_steps.specs.Costs.{slope_at}
use Rattle.cost_steps.proofs.checks.slopes_do_not_fall.Given as goal

-- the slopes so far do not fall
abbrev pub invariant-loop-place : goal.invariant-loop-place
invariant-loop-place l = (i : ℕ) → i < l.place → slope_at l.points i ≤ℚ slope_at l.points (i + 1)
