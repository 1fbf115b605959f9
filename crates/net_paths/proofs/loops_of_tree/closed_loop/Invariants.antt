use Rattle.std.proofs.Common.{◌≡◌, ◌∷◌, take, true}
use Rattle.net_paths.specs.Loops.{members_of}
use Rattle.net_paths.proofs.loops_of_tree.closed_loop.Given as goal

abbrev pub invariant-loop-step : goal.invariant-loop-step
invariant-loop-step l = l.made ≡ members_of (record { branch = l.fn.branch; forward = true } ∷ take l.step-index l.way)
