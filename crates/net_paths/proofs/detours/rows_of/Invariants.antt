use Rattle.std.proofs.Common.{◌≡◌, map, take}
use Rattle.net_paths.proofs.detours.rows_of.Given as goal

abbrev pub invariant-loop-step : goal.invariant-loop-step
invariant-loop-step l = l.rows ≡ map (λ s. s.branch.row) (take l.step-index l.steps)
