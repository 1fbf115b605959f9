use Rattle.std.proofs.Common.{◌≡◌, ◌+◌, ◌≤◌, List, [], length, drop}
use Rattle.record_reading.specs.Gathering.{read_records}
use Rattle.net_case.specs.declared.bus_rows.BusRow.{BusRow}
use Rattle.net_case.specs.BusReading.{AreRead, Keeps}
use Rattle.net_case.specs.NetworkReading.{bus_row}
use Rattle.net_case.proofs.bus_rows.read_buses.Given as goal

-- the rows done are kept, and those that are left are read in the light of them
abbrev pub invariant-loop-row : goal.invariant-loop-row
invariant-loop-row l = record {
  rows : AreRead l.rows;
  count : length l.rows.buses ≤ l.row;
  is : (done : List BusRow) × Keeps done l.rows × (read_records bus_row [] 1 l.case.bus ≡ read_records bus_row done (l.row + 1) (drop l.row l.case.bus));
}
