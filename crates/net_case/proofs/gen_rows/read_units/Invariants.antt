use Rattle.std.proofs.Common.{◌≡◌, ◌+◌, ℕ, ◌≤◌, [], length, map, drop, All}
use Rattle.record_reading.specs.Gathering.{gather}
use Rattle.net_case.specs.Networks.{IsNetUnit, AreRows, ArePlaces}
use Rattle.net_case.specs.NetworkReading.{unit_row}
use Rattle.net_case.proofs.gen_rows.read_units.Given as goal

abbrev pub invariant-loop-row : goal.invariant-loop-row
invariant-loop-row l = record {
  count : length l.units ≤ l.row;
  units : (buses : ℕ) → ArePlaces buses l.places.entries → All (IsNetUnit buses) l.units;
  rows : AreRows l.row (map (λ unit. unit.row) l.units);
  is : gather (λ _. unit_row l.places.entries) [] 1 l.case.generators ≡ gather (λ _. unit_row l.places.entries) l.units (l.row + 1) (drop l.row l.case.generators);
}
