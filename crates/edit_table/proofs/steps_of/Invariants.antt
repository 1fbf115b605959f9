use Rattle.std.proofs.Common.{◌≡◌, ◌≤◌, ◌+◌, [], length, drop, All}
use Rattle.record_reading.specs.Gathering.{read_records}
use Rattle.edit_table.specs.EditTable.{IsStep, step_in}
use Rattle.edit_table.proofs.steps_of.Given as goal

-- the steps so far, and those of the records that are left
abbrev pub invariant-loop-place : goal.invariant-loop-place
invariant-loop-place l = record {
  count : length l.steps ≤ l.place;
  steps : All IsStep l.steps;
  is : read_records (λ _. step_in) [] 2 l.table ≡ read_records (λ _. step_in) l.steps (l.place + 2) (drop l.place l.table);
}
