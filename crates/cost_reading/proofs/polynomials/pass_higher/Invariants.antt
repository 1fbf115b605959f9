use Rattle.std.proofs.Common.{ℕ, ◌<◌, ◌≤◌}
use Rattle.fraction_theory.specs.declared.Sign.TheVariants as sign
use Rattle.cost_reading.specs.CostRows.{degree_column, row_at}
use Rattle.cost_reading.specs.Cells.{IsSign}
use Rattle.cost_reading.proofs.polynomials.pass_higher.Given as goal

abbrev pub invariant-loop-degree : goal.invariant-loop-degree
invariant-loop-degree l = (degree : ℕ) → degree < l.degree → 3 ≤ degree → IsSign (row_at l.costs l.row) (degree_column l.count degree) sign.Zero
