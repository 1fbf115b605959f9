use Rattle.linear_dict.proofs.PivotLemmas.{IsStage, solved_number}
use Rattle.linear_dict.proofs.table.solve_row.Given as goal

abbrev pub invariant-loop-j : goal.invariant-loop-j
invariant-loop-j g l = IsStage g.N.Exact.value l.columns l.fn.table.items l.table.items (solved_number g.N.Exact.value l.columns l.fn.table.items l.row l.column) l.row l.column l.j
