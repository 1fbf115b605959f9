use Rattle.std.specs.Prelude.{◌+◌, ◌<◌, ℕ, ◌<ℤ◌}
use Rattle.cost_steps.specs.Costs.{point_at}
use Rattle.cost_steps.proofs.checks.outputs_rise.Given as goal

-- the outputs so far rise
abbrev pub invariant-loop-place : goal.invariant-loop-place
invariant-loop-place l = (i : ℕ) → i < l.place → (point_at l.points i).output <ℤ (point_at l.points (i + 1)).output
