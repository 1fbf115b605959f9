use Rattle.std.proofs.Common.{rules}
use Rattle.std.proofs.lemmas.Result.{err_from_is_err_and}
use Rattle.cost_steps.specs.declared.costs.Cost.TheVariants.{Quadratic}
use Rattle.cost_reading.specs.CostRows.{row_at}
use Rattle.cost_reading.proofs.Faults.{of_coefficients_count}
use Rattle.cost_reading.proofs.Degrees.{polynomial}
use Rattle.cost_reading.proofs.polynomials.polynomial.Goals as goal

pub returns-in_err-count : goal.returns-in_err-count
returns-in_err-count c =
    let p = err_from_is_err_and c.from_residual.result c.from_residual.ensures.1 in
    Prim.rw (p.1, p.2) (of_coefficients_count (row_at c.args.costs.now c.args.row) _ c.requires.model c.in_err-count.ensures.count)

pub returns-then-square-lt0 : goal.returns-then-square-lt0
returns-then-square-lt0 c =
    (Quadratic c.in_ok-square.field-0.square c.in_ok-square.field-0.linear, polynomial _ _ _ _ c.requires.model c.in_ok-count.ensures.count c.in_ok-square.ensures, search rules)

pub returns-then-square-gt-MOST_SQUARE : goal.returns-then-square-gt-MOST_SQUARE
returns-then-square-gt-MOST_SQUARE c = (
  c.in_ok-count.count,
  c.in_ok-count.ensures.count,
  c.degree_column.ensures,
  c.in_ok-square.field-0.square,
  c.in_ok-square.field-0.linear,
  polynomial _ _ _ _ c.requires.model c.in_ok-count.ensures.count c.in_ok-square.ensures,
  search rules,
)
