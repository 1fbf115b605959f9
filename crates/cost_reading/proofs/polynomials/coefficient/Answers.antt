use Rattle.cost_reading.specs.CostRows.{row_at}
use Rattle.cost_reading.proofs.Degrees.{given}
use Rattle.cost_reading.proofs.polynomials.coefficient.Goals as goal

pub returns : goal.returns
returns c = given (row_at c.args.costs.now c.args.row) c.args.count c.args.degree c.args.places _ _ c.if-degree-count.false c.degree_column.ensures c.number.ensures
