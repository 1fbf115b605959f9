use Rattle.std.proofs.Common.{◌≡◌, ◌≤◌, ◌+◌, [], drop, length, All}
use Rattle.market_model.specs.Rights.{IsTransmissionRight}
use Rattle.record_reading.specs.Gathering.{read_records}
use Rattle.rights_test.specs.RightsTable.{right_in}
use Rattle.rights_test.proofs.reading.rights_of.Given as goal

-- the rights of the records so far, and the records that are left
abbrev pub invariant-loop-place : goal.invariant-loop-place
invariant-loop-place l = record {
  count : length l.rights ≤ l.place;
  kept : All (IsTransmissionRight (length l.buses)) l.rights;
  is : read_records (λ done. right_in l.buses) [] 2 l.table ≡ read_records (λ done. right_in l.buses) l.rights (l.place + 2) (drop l.place l.table);
}
