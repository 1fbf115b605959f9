use Rattle.std.proofs.Common.{◌≤◌, List, length}
use Rattle.net_case.specs.declared.live_parts.NetBranch.{NetBranch}
use Rattle.net_paths.specs.Searching.{IsIncidence, AreVisits, IsClosed}
use Rattle.net_paths.proofs.search.Search.new.Given as goal

abbrev pub invariant-loop-visit : goal.invariant-loop-visit
invariant-loop-visit l = record {
  count : l.visit ≤ length l.search.visits;
  visits : (branches : List NetBranch) → IsIncidence branches (length l.incidence.lists.items) l.incidence.lists.items
      → AreVisits branches (length l.incidence.lists.items) l.root l.search.visits l.search.seen.items;
  closed : (branches : List NetBranch) → IsIncidence branches (length l.incidence.lists.items) l.incidence.lists.items
      → IsClosed branches l.search.visits l.search.seen.items l.visit;
}
