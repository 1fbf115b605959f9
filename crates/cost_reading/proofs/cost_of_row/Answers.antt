use Rattle.std.proofs.lemmas.Result.{err_from_is_err_and}
use Rattle.cost_reading.specs.CostRows.{row_at}
use Rattle.cost_reading.proofs.Faults.{of_model}
use Rattle.cost_reading.proofs.cost_of_row.Goals as goal

pub returns-in_err-number : goal.returns-in_err-number
returns-in_err-number c =
    let p = err_from_is_err_and c.from_residual.result c.from_residual.ensures.1 in
    Prim.rw (p.1, p.2) (of_model (row_at c.args.costs.now c.args.row) _ c.in_err-number.ensures)
