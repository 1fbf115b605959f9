use Rattle.std.proofs.Common.{◌≡◌, ◌+◌, ℕ, ◌≤◌, [], length, map, drop, All}
use Rattle.record_reading.specs.Gathering.{gather}
use Rattle.net_case.specs.Networks.{IsNetBranch, AreRows, ArePlaces}
use Rattle.net_case.specs.NetworkReading.{branch_row}
use Rattle.net_case.proofs.branch_rows.live_branches.Given as goal

abbrev pub invariant-loop-row : goal.invariant-loop-row
invariant-loop-row l = record {
  count : length l.branches ≤ l.row;
  branches : (buses : ℕ) → ArePlaces buses l.places.entries → All (IsNetBranch buses) l.branches;
  rows : AreRows l.row (map (λ branch. branch.row) l.branches);
  is : gather (λ _. branch_row l.post l.places.entries) [] 1 l.case.branch ≡ gather (λ _. branch_row l.post l.places.entries) l.branches (l.row + 1) (drop l.row l.case.branch);
}
