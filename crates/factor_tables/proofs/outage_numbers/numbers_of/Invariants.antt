use Rattle.std.proofs.Common.{◌≡◌, ◌≤◌, ◌+◌, [], drop, length}
use Rattle.record_reading.specs.Gathering.{read_records}
use Rattle.factor_tables.specs.OutageNumbers.{outage_number}
use Rattle.factor_tables.proofs.outage_numbers.numbers_of.Given as goal

-- the numbers so far, and those of the records that are left
abbrev pub invariant-loop-place : goal.invariant-loop-place
invariant-loop-place l = record {
  count : length l.numbers ≤ l.place;
  is : read_records outage_number [] 2 l.table ≡ read_records outage_number l.numbers (l.place + 2) (drop l.place l.table);
}
