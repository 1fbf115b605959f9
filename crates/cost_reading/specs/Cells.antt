-- What the cells of a row of `gencost` say, one by one, and why they say nothing.
use Rattle.std.specs.Prelude.{◌≡◌, ◌≢◌, ℕ, ◌+◌, ◌*◌, ◌<◌, ◌≤◌, ◌⊎◌, ℤ, Option, Some, None, Ok}
use Rattle.record_reading.specs.Records.{Record}
use Rattle.record_reading.specs.declared.Why.TheVariants as why
use Rattle.fraction_theory.specs.declared.Sign.{Sign}
use Rattle.fraction_theory.specs.declared.Sign.TheVariants as sign
use Rattle.scaled_decimal.specs.declared.DecimalFault.{DecimalFault}
use Rattle.scaled_decimal.specs.Reading.{HasSign}
use Rattle.market_data.specs.Scales.{mw_places}
use Rattle.cost_steps.specs.declared.costs.CostPoint.{CostPoint}
use Rattle.cost_reading.specs.declared.RowFault.{RowFault}
use Rattle.cost_reading.specs.declared.RowFault.TheVariants as row_fault
use Rattle.cost_reading.specs.CostRows.{Says, Fails, HasNoCount, IsCoefficient, cell, degree_column}

-- the sign of the number of a column
abbrev pub IsSign : Record → ℕ → Sign → Type 0
IsSign r col s = HasSign (cell r col) (Ok s)

-- a column has no number to so many places, or none that has a sign
abbrev pub IsMisread : Record → ℕ → Option ℕ → RowFault → Type 0
IsMisread r col places f = (e : DecimalFault) × (f ≡ row_fault.Cell col (why.Decimal e)) × Fails places (cell r col) e

-- NCOST has no number, or is no count
abbrev pub IsCountFault : Record → ℕ → ℕ → RowFault → Type 0
IsCountFault r least width f = IsMisread r 4 (Some 0) f ⊎ ((f ≡ row_fault.Count) × HasNoCount r least width)

-- the cell of the coefficient of a degree has no number to so many places, or none that has a sign
pub record IsCoefficientFault (r : Record) (n degree : ℕ) (places : Option ℕ) (f : RowFault) : Type 0 where
  pub given : degree < n
  pub misread : IsMisread r (degree_column n degree) places f

-- the coefficients of the third degree and of higher ones are 0
abbrev pub AreZeros : Record → ℕ → Type 0
AreZeros r n = (degree : ℕ) → 3 ≤ degree → degree < n → IsSign r (degree_column n degree) sign.Zero

-- the coefficient of a degree is not 0
pub record IsOther (r : Record) (n degree : ℕ) (f : RowFault) : Type 0 where
  pub given : degree < n
  pub told : f ≡ row_fault.Degree
  pub other : (s : Sign) × IsSign r (degree_column n degree) s × (s ≢ sign.Zero)

-- one of these has no sign, or is not 0
abbrev pub IsHigherFault : Record → ℕ → RowFault → Type 0
IsHigherFault r n f = (degree : ℕ) × (3 ≤ degree) × (IsCoefficientFault r n degree None f ⊎ IsOther r n degree f)

-- the factors of a polynomial of so many coefficients
pub record AreFactors (r : Record) (n : ℕ) (square linear : ℤ) : Type 0 where
  pub second : IsCoefficient r n 2 15 square
  pub first : IsCoefficient r n 1 12 linear
  pub constant : (s : Sign) × IsSign r (degree_column n 0) s
  pub higher : AreZeros r n

-- the point of a place
pub record IsPoint (r : Record) (i : ℕ) (point : CostPoint) : Type 0 where
  pub output : Says r (5 + i * 2) mw_places point.output
  pub cost : Says r (6 + i * 2) 9 point.cost

-- one of its cells has no number
abbrev pub IsPointFault : Record → ℕ → RowFault → Type 0
IsPointFault r i f = IsMisread r (5 + i * 2) (Some mw_places) f ⊎ IsMisread r (6 + i * 2) (Some 9) f
