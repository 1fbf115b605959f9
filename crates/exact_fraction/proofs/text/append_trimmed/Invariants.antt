use Rattle.std.proofs.Common.{◌≡◌, ◌≤◌, ◌<◌, ◌^◌}
use Rattle.exact_fraction.specs.Written.{trimmed_places}
use Rattle.exact_fraction.proofs.text.append_trimmed.Given as goal

abbrev pub invariant-loop-k : goal.invariant-loop-k
invariant-loop-k l = (l.k ≤ l.places) × (l.left < 10 ^ l.k) × (trimmed_places l.k l.left ≡ trimmed_places l.places l.n)

abbrev pub decreases-loop-k : goal.decreases-loop-k
decreases-loop-k l = l.k
