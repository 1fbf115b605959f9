use Rattle.std.proofs.Common.{rules}
use Rattle.std.proofs.lemmas.Result.{err_from_is_err_and}
use Rattle.cost_steps.specs.declared.costs.Cost.TheVariants.{Segments}
use Rattle.cost_reading.specs.CostRows.{row_at}
use Rattle.cost_reading.proofs.Faults.{of_points_count}
use Rattle.cost_reading.proofs.points.segments.Goals as goal

pub returns-in_err-count : goal.returns-in_err-count
returns-in_err-count c =
    let p = err_from_is_err_and c.from_residual.result c.from_residual.ensures.1 in
    Prim.rw (p.1, p.2) (of_points_count (row_at c.args.costs.now c.args.row) _ c.requires.model c.in_err-count.ensures.count)

pub returns-then-not-slopes_do_not_fall : goal.returns-then-not-slopes_do_not_fall
returns-then-not-slopes_do_not_fall c =
    (Segments c.in_ok-points.points, c.in_ok-points.ensures, search rules)
