use Rattle.std.proofs.Common.{ℕ, ◌-◌, ◌<◌, ◌≤◌, length, map, get_or}
use Rattle.net_case.proofs.live_parts.place_of_row.Given as goal

-- the rows below are less, and those from above on are greater
abbrev pub invariant-loop-low : goal.invariant-loop-low
invariant-loop-low l = record {
  order : l.low ≤ l.high;
  within : l.high ≤ length l.branches;
  less : (k : ℕ) → k < l.low → get_or (map (λ branch. branch.row) l.branches) k 0 < l.row;
  more : (k : ℕ) → l.high ≤ k → k < length l.branches → l.row < get_or (map (λ branch. branch.row) l.branches) k 0;
}

abbrev pub decreases-loop-low : goal.decreases-loop-low
decreases-loop-low l = l.high - l.low
