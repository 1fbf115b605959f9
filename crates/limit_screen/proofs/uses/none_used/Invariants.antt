use Rattle.std.proofs.Common.{◌≡◌, None, replicate}
use Rattle.limit_screen.proofs.uses.none_used.Given as goal

abbrev pub invariant-loop : goal.invariant-loop
invariant-loop g l = l.used.items ≡ replicate l.counter None
