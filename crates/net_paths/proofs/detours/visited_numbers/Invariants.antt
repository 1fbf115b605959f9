use Rattle.net_paths.specs.Detours.{HoldsSide}
use Rattle.net_paths.proofs.detours.visited_numbers.Given as goal

abbrev pub invariant-loop-place : goal.invariant-loop-place
invariant-loop-place l = HoldsSide l.network l.search.seen.items l.place l.numbers
