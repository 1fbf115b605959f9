use Rattle.std.proofs.Common.{ℕ, ◌≡◌, ◌∙◌, ap, arith, length, length-append, subst}
use Rattle.std.proofs.lemmas.Result.{err_from_is_err_and}
use Rattle.cost_reading.specs.CostRows.{row_at}
use Rattle.cost_reading.proofs.Faults.{of_point}
use Rattle.cost_reading.proofs.Reading.{AreRead, all_read, one_more}
use Rattle.cost_reading.proofs.points.read_points.Goals as goal

pub returns-in_err-point : goal.returns-in_err-point
returns-in_err-point c =
    let p = err_from_is_err_and c.from_residual.result c.from_residual.ensures.1 in
    Prim.rw (p.1, p.2) (of_point (row_at c.args.costs.now c.args.row) c.args.count c.loop-place.place _ c.requires.model c.requires.count c.loop-place-test.true c.in_err-point.ensures)

pub loop-place-preserved : goal.loop-place-preserved
loop-place-preserved c =
    let place = c.loop-place.place in
    let old = c.loop-place.invariant in
    let added = c.in_ok-push.ensures in
    record {
      count = omega (arith, simp length-append at (ap length added), old.count);
      read = rw added (one_more (row_at c.args.costs.now c.args.row) place c.loop-place.points c.in_ok-point.point old.count old.read c.in_ok-point.ensures);
    }

pub returns : goal.returns
returns c =
    let r = row_at c.args.costs.now c.args.row in
    let points = c.loop-place.points in
    let all : c.loop-place.place ≡ c.args.count = omega arith in
    all_read r c.args.count points c.requires.model c.requires.count (c.loop-place.invariant.count ∙ all) (subst (λ (n : ℕ). AreRead r n points) all c.loop-place.invariant.read)
