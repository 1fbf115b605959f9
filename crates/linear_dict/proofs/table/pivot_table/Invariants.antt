use Rattle.std.proofs.Common.{◌≡◌, length, map}
use Rattle.std.specs.Vec.{vec_capacity}
use Rattle.linear_dict.specs.Changes.{AreChanges, place_of}
use Rattle.linear_dict.specs.Tables.{cell, pivoted_row, Shows}
use Rattle.linear_dict.proofs.PivotLemmas.{pivoting}
use Rattle.linear_dict.proofs.table.pivot_table.Given as goal

abbrev pub invariant-loop-i : goal.invariant-loop-i
invariant-loop-i g l =
    (length l.table.items ≡ length l.fn.table.items)
    × Shows l.rows l.columns (map g.N.Exact.value l.table.items) (pivoting (cell l.columns (map g.N.Exact.value l.fn.table.items)) l.row l.column l.i)
    × AreChanges l.columns l.column (pivoted_row (cell l.columns (map g.N.Exact.value l.fn.table.items)) l.row l.column) (map place_of l.changes.items)
    × (vec_capacity l.changes ≡ vec_capacity l.fn.changes)
