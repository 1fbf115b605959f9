use Rattle.std.proofs.Common.{◌≡◌, ℕ, ◌+◌, arith, subst}
use borrow.Author.Count.{below_more}
use Rattle.fraction_theory.specs.Order.{◌≤ℚ◌}
use Rattle.cost_steps.specs.Costs.{point_at, segment_slope, slope_at}
use Rattle.cost_steps.proofs.checks.slopes_do_not_fall.Goals as goal

two : (k : ℕ) → k + 2 ≡ k + 1 + 1
two k = omega arith

pub loop-place-preserved : goal.loop-place-preserved
loop-place-preserved c =
    let points = c.args.points.now in
    let place = c.loop-place.place in
    let here : slope_at points place ≤ℚ slope_at points (place + 1) =
    subst (λ (k : ℕ). slope_at points place ≤ℚ segment_slope (point_at points (place + 1)) (point_at points k)) (two place) (c.bends_up.ensures.0 c.if-not-bends_up.false) in
    below_more (λ i. slope_at points i ≤ℚ slope_at points (i + 1)) place c.loop-place.invariant here
