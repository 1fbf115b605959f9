-- What a unit's output costs at each output, in dollars an hour at p MW.
-- Source: MATPOWER User's Manual (cost models 1 and 2), Wood and Wollenberg (incremental cost); own names.
use Rattle.std.specs.Prelude.{◌≡◌, ℕ, ◌+◌, ◌<◌, List, length}
use Rattle.fraction_theory.specs.Fraction.{Fraction, ◌+ℚ◌, ◌-ℚ◌, ◌*ℚ◌}
use Rattle.fraction_theory.specs.Order.{◌≤ℚ◌}
use Rattle.cost_steps.specs.declared.costs.Cost.{Cost}
use Rattle.cost_steps.specs.declared.costs.Cost.TheVariants.{Quadratic, Segments}
use Rattle.cost_steps.specs.declared.costs.CostPoint.{CostPoint}
use Rattle.cost_steps.specs.Costs.{dollars, mw, point_at, quadratic_cost, slope_at}

-- p MW lies on the segment from the point of a place to the next; the first segment goes on below its points, and the last above
pub record LiesOn (points : List CostPoint) (place : ℕ) (p : Fraction) : Type 0 where
  pub segment : place + 1 < length points
  pub above : 0 < place → mw (point_at points place).output ≤ℚ p
  pub below : place + 2 < length points → p ≤ℚ mw (point_at points (place + 1)).output

-- the cost at p MW on the straight line of that segment
abbrev pub line_cost : List CostPoint → ℕ → Fraction → Fraction
line_cost points place p = dollars (point_at points place).cost +ℚ slope_at points place *ℚ (p -ℚ mw (point_at points place).output)

-- the cost at p MW
abbrev pub IsCostAt : Cost → Fraction → Fraction → Type 0
IsCostAt (Quadratic square linear) p c = c ≡ quadratic_cost square linear p
IsCostAt (Segments points) p c = (place : ℕ) × LiesOn points place p × (c ≡ line_cost points place p)
