use Rattle.std.proofs.Common.{ℕ, ◌<◌}
use Rattle.std.specs.Prelude.{IsSome}
use Rattle.net_paths.specs.Searching.{visit_at}
use Rattle.net_paths.proofs.connection.first_apart.Given as goal

abbrev pub invariant-loop-place : goal.invariant-loop-place
invariant-loop-place l = (p : ℕ) → p < l.place → IsSome (visit_at l.search.seen.items p)
