use Rattle.std.proofs.Common.{◌≡◌, ◌≤◌, length, All}
use Rattle.std.specs.Prelude.{unsigned_abs}
use Rattle.market_data.specs.Scales.{most_scaled_reactance}
use Rattle.net_case.specs.ReactanceReading.{reactances_in}
use Rattle.net_case.proofs.ReactanceLemmas.{from_place}
use Rattle.net_case.proofs.branch_reactances.reactances.Given as goal

abbrev pub invariant-loop-branch : goal.invariant-loop-branch
invariant-loop-branch l = record {
  count : length l.list ≡ l.branch-index;
  size : All (λ x. unsigned_abs x ≤ most_scaled_reactance) l.list;
  is : reactances_in l.case.branch l.branch-items ≡ from_place l.case.branch l.branch-items l.list l.branch-index;
}
