-- What a unit's output costs: a polynomial of degree two or straight lines between points, as MATPOWER's cost models 2 and 1, without what
-- is paid whatever the output is.
use Rattle.std.specs.Prelude.{◌≡◌, ℕ, ◌+◌, ◌*◌, ◌^◌, ◌<◌, ◌≤◌, ℤ, pos, ◌-ℤ◌, ◌<ℤ◌, ◌≤ℤ◌, unsigned_abs, List, length, get_or}
use Rattle.fraction_theory.specs.Fraction.{Fraction, over, ◌+ℚ◌, ◌-ℚ◌, ◌*ℚ◌}
use Rattle.fraction_theory.specs.Order.{◌≤ℚ◌}
use Rattle.market_data.specs.Scales.{mw_one}
use Rattle.cost_steps.specs.declared.costs.Cost.{Cost}
use Rattle.cost_steps.specs.declared.costs.Cost.TheVariants.{Quadratic, Segments}
use Rattle.cost_steps.specs.declared.costs.CostPoint.{CostPoint}

-- the MW of an output
abbrev pub mw : ℤ → Fraction
mw n = over n mw_one

-- the dollars an hour of a point's cost
abbrev pub dollars : ℤ → Fraction
dollars n = over n (10 ^ 9)

-- dollars per MW^2 an hour, and dollars per MWh
abbrev pub square_of : ℤ → Fraction
square_of n = over n (10 ^ 15)

abbrev pub linear_of : ℤ → Fraction
linear_of n = over n (10 ^ 12)

-- a quadratic cost at p MW, in dollars an hour
abbrev pub quadratic_cost : ℤ → ℤ → Fraction → Fraction
quadratic_cost square linear p = square_of square *ℚ (p *ℚ p) +ℚ linear_of linear *ℚ p

-- the mean slope of a cost from a to b MW, in dollars per MWh: the slope of the straight line between the two
abbrev pub IsMeanSlope : (Fraction → Fraction) → Fraction → Fraction → Fraction → Type 0
IsMeanSlope cost a b slope = slope *ℚ (b -ℚ a) ≡ cost b -ℚ cost a

-- that of a quadratic cost between two outputs
abbrev pub quadratic_slope : ℤ → ℤ → ℤ → ℤ → Fraction
quadratic_slope square linear a b = square_of square *ℚ (mw a +ℚ mw b) +ℚ linear_of linear

-- the slope of the segment between two points
abbrev pub segment_slope : CostPoint → CostPoint → Fraction
segment_slope p q = over (q.cost -ℤ p.cost) (unsigned_abs (q.output -ℤ p.output))

-- the slopes are the mean slopes
abbrev pub QuadraticSlopesAreMean : Type 0
QuadraticSlopesAreMean = (square linear a b : ℤ) → IsMeanSlope (quadratic_cost square linear) (mw a) (mw b) (quadratic_slope square linear a b)

abbrev pub SegmentSlopesAreMean : Type 0
SegmentSlopesAreMean = (p q : CostPoint) → p.output <ℤ q.output → segment_slope p q *ℚ (mw q.output -ℚ mw p.output) ≡ dollars q.cost -ℚ dollars p.cost

abbrev pub LawOfMeanSlopes : Type 0
LawOfMeanSlopes = QuadraticSlopesAreMean × SegmentSlopesAreMean

-- the factor of a quadratic cost's square, from 0 to 1000 dollars
pub record IsSquare (square : ℤ) : Type 0 where
  pub least : pos 0 ≤ℤ square
  pub most : square ≤ℤ pos (1000 * 10 ^ 15)

-- the point of a place, the first being 0
abbrev pub point_at : List CostPoint → ℕ → CostPoint
point_at points i = get_or points i (record { output = pos 0; cost = pos 0 })

-- the slope from the point of a place to the next
abbrev pub slope_at : List CostPoint → ℕ → Fraction
slope_at points i = segment_slope (point_at points i) (point_at points (i + 1))

abbrev pub OutputsRise : List CostPoint → Type 0
OutputsRise points = (i : ℕ) → i + 1 < length points → (point_at points i).output <ℤ (point_at points (i + 1)).output

abbrev pub SlopesDoNotFall : List CostPoint → Type 0
SlopesDoNotFall points = (i : ℕ) → i + 2 < length points → slope_at points i ≤ℚ slope_at points (i + 1)

-- at least two points
pub record AreCostPoints (points : List CostPoint) : Type 0 where
  pub some : 2 ≤ length points
  pub rise : OutputsRise points
  pub bend_up : SlopesDoNotFall points

abbrev pub IsCost : Cost → Type 0
IsCost (Quadratic square linear) = IsSquare square
IsCost (Segments points) = AreCostPoints points
