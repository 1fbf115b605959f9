use Rattle.std.proofs.Common.{◌≡◌, ℕ, List, length, take}
use Rattle.std.specs.Prelude.{All, IsSome}
use Rattle.net_case.specs.declared.live_parts.NetBranch.{NetBranch}
use Rattle.net_paths.specs.Chains.{end_of}
use Rattle.net_paths.specs.Searching.{IsIncidence, AreVisits, GoesOn, visit_at}
use Rattle.net_paths.proofs.search.Search.follow_all.Given as goal

abbrev pub invariant-loop-step : goal.invariant-loop-step
invariant-loop-step l = record {
  room : length l.self.seen.items ≡ length l.incidence.lists.items;
  on : GoesOn l.fn.self l.self;
  visits : (branches : List NetBranch) (places root : ℕ) → IsIncidence branches places l.incidence.lists.items → AreVisits branches places root l.fn.self.visits l.fn.self.seen.items
      → AreVisits branches places root l.self.visits l.self.seen.items;
  seen : All (λ s. IsSome (visit_at l.self.seen.items (end_of s))) (take l.step-index l.step-items);
}
