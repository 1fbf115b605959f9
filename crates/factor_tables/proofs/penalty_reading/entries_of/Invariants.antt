use Rattle.std.proofs.Common.{◌≡◌, ◌+◌, [], drop}
use Rattle.record_reading.specs.Gathering.{read_records}
use Rattle.factor_tables.specs.Penalties.{ArePenalties, penalty_entry}
use Rattle.factor_tables.proofs.penalty_reading.entries_of.Given as goal

-- the records so far, and those that are left
abbrev pub invariant-loop-place : goal.invariant-loop-place
invariant-loop-place l = record {
  kept : ArePenalties l.by_limit.entries;
  is : read_records (penalty_entry l.network) [] 2 l.table ≡ read_records (penalty_entry l.network) l.by_limit.entries (l.place + 2) (drop l.place l.table);
}
