use Rattle.std.proofs.Common.{◌≡◌, ◌+◌, [], drop}
use Rattle.record_reading.specs.Gathering.{read_records}
use Rattle.factor_tables.specs.Offsets.{AreOffsets, offset_entry}
use Rattle.factor_tables.proofs.offset_reading.entries_of.Given as goal

-- the records so far, and those that are left
abbrev pub invariant-loop-place : goal.invariant-loop-place
invariant-loop-place l = record {
  kept : AreOffsets l.by_row.entries;
  is : read_records (offset_entry l.network) [] 2 l.table ≡ read_records (offset_entry l.network) l.by_row.entries (l.place + 2) (drop l.place l.table);
}
