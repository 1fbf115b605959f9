use Rattle.std.proofs.Common.{ℕ, ◌<◌, List, length}
use Rattle.net_case.specs.declared.live_parts.NetBranch.{NetBranch}
use Rattle.net_paths.specs.Searching.{AreVisits, IsWay, place_at}
use Rattle.net_paths.proofs.search.Search.way_back.Given as goal

abbrev pub invariant-loop-back : goal.invariant-loop-back
invariant-loop-back l = record {
  within : l.visit < length l.self.visits;
  way : (branches : List NetBranch) (places root : ℕ) → AreVisits branches places root l.self.visits l.self.seen.items
      → IsWay branches l.self.visits l.self.seen.items (place_at l.self.visits l.fn.visit) l.visit l.steps;
}

abbrev pub decreases-loop-back : goal.decreases-loop-back
decreases-loop-back l = l.visit
