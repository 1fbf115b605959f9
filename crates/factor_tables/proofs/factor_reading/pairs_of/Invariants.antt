use Rattle.std.proofs.Common.{◌≡◌, ◌+◌, [], drop, length}
use Rattle.record_reading.specs.Gathering.{read_records}
use Rattle.factor_tables.specs.Factors.{ArePairFactors}
use Rattle.factor_tables.specs.Tables.{entry_in}
use Rattle.factor_tables.proofs.factor_reading.pairs_of.Given as goal

-- the records so far, and those that are left; there is a mark for each row
abbrev pub invariant-loop-place : goal.invariant-loop-place
invariant-loop-place l = record {
  kept : ArePairFactors l.column l.pairs;
  rows : length l.pairs.marked.items ≡ l.network.branch_rows + 1;
  is : read_records (entry_in l.places l.network l.column) [] 2 l.table ≡ read_records (entry_in l.places l.network l.column) l.pairs.by_pair.entries (l.place + 2) (drop l.place l.table);
}
