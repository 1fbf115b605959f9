use Rattle.std.proofs.Common.{take}
use Rattle.fraction_theory.specs.Sums.{sum_by}
use Rattle.linear_dict.specs.Adding.{AreSums, row_term}
use Rattle.linear_dict.proofs.adding.row_entries.Given as goal

abbrev pub invariant-loop-k : goal.invariant-loop-k
invariant-loop-k g l = AreSums g.N.Exact.value l.sums.items l.columns (λ c. sum_by (row_term g.N.Exact.value l.columns l.table l.entries c) (take l.k l.variables))
