use Rattle.std.proofs.Common.{◌≡◌}
use Rattle.rights_test.proofs.BusSteps.{ended_to}
use Rattle.rights_test.proofs.injecting.put_at.Given as goal

abbrev pub invariant-loop-right : goal.invariant-loop-right
invariant-loop-right g l = g.N.Exact.value l.mw ≡ ended_to l.rights l.bus l.right-index
