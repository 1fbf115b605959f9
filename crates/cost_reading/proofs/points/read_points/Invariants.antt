use Rattle.std.proofs.Common.{◌≡◌, length}
use Rattle.cost_reading.specs.CostRows.{row_at}
use Rattle.cost_reading.proofs.Reading.{AreRead}
use Rattle.cost_reading.proofs.points.read_points.Given as goal

abbrev pub invariant-loop-place : goal.invariant-loop-place
invariant-loop-place l = record {
  count : length l.points ≡ l.place;
  read : AreRead (row_at l.costs l.row) l.place l.points;
}
