use Rattle.std.proofs.Common.{◌≡◌, ◌≤◌, map}
use Rattle.std.specs.Vec.{vec_capacity, vec_len}
use Rattle.linear_dict.specs.Changes.{AreChanges, place_of}
use Rattle.linear_dict.specs.Tables.{cell}
use Rattle.linear_dict.proofs.changes.list_changes.Given as goal

abbrev pub invariant-loop-place : goal.invariant-loop-place
invariant-loop-place g l = record {
  capacity : vec_capacity l.changes ≡ vec_capacity l.fn.changes;
  few : vec_len l.changes ≤ l.place;
  listed : AreChanges l.place l.column (cell l.columns (map g.N.Exact.value l.table) l.solved) (map place_of l.changes.items);
}
