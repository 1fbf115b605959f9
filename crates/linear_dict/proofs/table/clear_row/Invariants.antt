use Rattle.std.proofs.Common.{◌≡◌, map}
use Rattle.std.specs.Vec.{vec_capacity}
use Rattle.linear_dict.specs.Changes.{AreSumsBelow, place_of}
use Rattle.linear_dict.proofs.ChangeLemmas.{IsClearedAt}
use Rattle.linear_dict.proofs.table.clear_row.Given as goal

abbrev pub invariant-loop-n : goal.invariant-loop-n
invariant-loop-n g l = record {
  cleared : IsClearedAt g.N.Exact.value l.columns l.fn.table.items l.row l.solved l.column (map place_of l.fn.changes.items) l.table.items l.n;
  places : map place_of l.changes.items ≡ map place_of l.fn.changes.items;
  capacity : vec_capacity l.changes ≡ vec_capacity l.fn.changes;
  sums : AreSumsBelow g.N.Exact.value l.factor l.changes.items l.n;
}
