-- What a row of `gencost` says of a unit's cost: in columns 1 to 4 MODEL, STARTUP, SHUTDOWN and NCOST, and from the fifth on the
-- parameters. Model 1 has NCOST points, each an output and what it costs; model 2 has NCOST coefficients, that of the highest degree first.
-- What a start and a stop cost is not looked at, nor are cells behind the parameters.
-- Source: MATPOWER User's Manual, the generator cost data of a case; own names.
use Rattle.std.specs.Prelude.{◌≡◌, ◌≢◌, ⊤, ℕ, ◌+◌, ◌-◌, ◌*◌, ◌^◌, ◌<◌, ◌≤◌, ◌==◌, ◌⊎◌, if◌then◌else◌, ℤ, pos, ◌<ℤ◌, List, [], length, slice_index_or, Option, Some, None, Err, Ok}
use Rattle.record_reading.specs.Records.{Record, cell_of}
use Rattle.record_reading.specs.declared.Why.{Why}
use Rattle.record_reading.specs.declared.Why.TheVariants as why
use Rattle.fraction_theory.specs.declared.Sign.{Sign}
use Rattle.fraction_theory.specs.declared.Sign.TheVariants as sign
use Rattle.scaled_decimal.specs.declared.DecimalFault.{DecimalFault}
use Rattle.scaled_decimal.specs.Reading.{Reads, HasSign}
use Rattle.market_data.specs.Scales.{mw_places}
use Rattle.cost_steps.specs.declared.costs.Cost.{Cost}
use Rattle.cost_steps.specs.declared.costs.Cost.TheVariants.{Quadratic, Segments}
use Rattle.cost_steps.specs.declared.costs.CostPoint.{CostPoint}
use Rattle.cost_steps.specs.Costs.{IsCost, OutputsRise, SlopesDoNotFall, point_at}
use Rattle.cost_reading.specs.declared.RowFault.{RowFault}
use Rattle.cost_reading.specs.declared.RowFault.TheVariants as row_fault
use Rattle.cost_reading.specs.declared.CostFault.{CostFault}
use Rattle.cost_reading.specs.declared.CostFault.TheVariants as fault

-- a row, the first being 1
abbrev pub row_at : List Record → ℕ → Record
row_at rows row = slice_index_or rows (row - 1) []

-- the bytes of a column, the first being 1
abbrev pub cell : Record → ℕ → List ℕ
cell r col = cell_of r (col - 1)

-- the number of a column, in units of 10^-places
abbrev pub Says : Record → ℕ → ℕ → ℤ → Type 0
Says r col places n = Reads places (cell r col) (Ok n)

abbrev pub HasModel : Record → ℕ → Type 0
HasModel r model = Says r 1 0 (pos model)

-- how many points or coefficients there are: the row has the cells of all of them
pub record HasCount (r : Record) (least width n : ℕ) : Type 0 where
  pub says : Says r 4 0 (pos n)
  pub enough : least ≤ n
  pub cells : 4 + n * width ≤ length r

-- the column of the coefficient of a degree, of so many coefficients
abbrev pub degree_column : ℕ → ℕ → ℕ
degree_column n degree = 4 + n - degree

-- the coefficient of a degree, in units of 10^-places: 0 where there is none
pub record IsCoefficient (r : Record) (n degree places : ℕ) (value : ℤ) : Type 0 where
  pub given : degree < n → Says r (degree_column n degree) places value
  pub absent : n ≤ degree → value ≡ pos 0

-- a polynomial of the second degree at most, whose constant is any number
pub record IsPolynomial (r : Record) (square linear : ℤ) : Type 0 where
  pub n : ℕ
  pub model : HasModel r 2
  pub count : HasCount r 1 1 n
  pub second : IsCoefficient r n 2 15 square
  pub first : IsCoefficient r n 1 12 linear
  pub constant : (s : Sign) × HasSign (cell r (degree_column n 0)) (Ok s)
  pub higher : (degree : ℕ) → 3 ≤ degree → degree < n → HasSign (cell r (degree_column n degree)) (Ok sign.Zero)

-- straight lines from point to point: outputs in MW, costs in dollars an hour, both to nine places
pub record ArePoints (r : Record) (points : List CostPoint) : Type 0 where
  pub model : HasModel r 1
  pub count : HasCount r 2 2 (length points)
  pub output : (i : ℕ) → i < length points → Says r (5 + i * 2) mw_places (point_at points i).output
  pub cost : (i : ℕ) → i < length points → Says r (6 + i * 2) 9 (point_at points i).cost

-- what the row says, whether steps are made of it or not
abbrev pub SaysCost : Record → Cost → Type 0
SaysCost r (Quadratic square linear) = IsPolynomial r square linear
SaysCost r (Segments points) = ArePoints r points

-- the cost that a row says, of which steps are made
pub record IsCostOf (r : Record) (cost : Cost) : Type 0 where
  pub says : SaysCost r cost
  pub is : IsCost cost

-- ---- why a row gives no cost
-- a column is read to so many places, or for its sign alone
abbrev pub Fails : Option ℕ → List ℕ → DecimalFault → Type 0
Fails (Some places) bytes e = Reads places bytes (Err e)
Fails None bytes e = HasSign bytes (Err e)

abbrev pub degree_places : ℕ → Option ℕ
degree_places degree = if degree == 2 then Some 15 else if degree == 1 then Some 12 else None

-- the columns that are read: MODEL, NCOST, and the parameters that this counts
abbrev pub IsReadTo : Record → ℕ → Option ℕ → Type 0
IsReadTo r col places =
    ((col ≡ 1) × (places ≡ Some 0)) ⊎ ((col ≡ 4) × (places ≡ Some 0))
    ⊎ ((n i : ℕ) × HasModel r 1 × HasCount r 2 2 n × (i < n * 2) × (col ≡ 5 + i) × (places ≡ Some 9))
    ⊎ ((n degree : ℕ) × HasModel r 2 × HasCount r 1 1 n × (degree < n) × (col ≡ degree_column n degree) × (places ≡ degree_places degree))

-- a factor of the square above 1000 dollars
abbrev pub IsTooSquare : Record → ℕ → Type 0
IsTooSquare r col = (n : ℕ) × HasCount r 1 1 n × (col ≡ degree_column n 2) × (square linear : ℤ) × IsPolynomial r square linear × (pos (1000 * 10 ^ 15) <ℤ square)

abbrev pub IsCellFault : Record → ℕ → Why → Type 0
IsCellFault r col (why.Decimal e) = (places : Option ℕ) × IsReadTo r col places × Fails places (cell r col) e
IsCellFault r col why.Bounds = IsTooSquare r col

-- no count: below the least, or of more cells than there are
abbrev pub HasNoCount : Record → ℕ → ℕ → Type 0
HasNoCount r least width = (n : ℤ) × Says r 4 0 n × ((m : ℕ) → n ≡ pos m → least ≤ m → length r < 4 + m * width)

abbrev pub IsRowFault : Record → RowFault → Type 0
IsRowFault r (row_fault.Cell col w) = IsCellFault r col w
IsRowFault r row_fault.Model = (model : ℤ) × Says r 1 0 model × (model ≢ pos 1) × (model ≢ pos 2)
IsRowFault r row_fault.Count = (HasModel r 1 × HasNoCount r 2 2) ⊎ (HasModel r 2 × HasNoCount r 1 1)
IsRowFault r row_fault.Degree =
    (n degree : ℕ) × HasModel r 2 × HasCount r 1 1 n × (3 ≤ degree) × (degree < n) × (s : Sign) × HasSign (cell r (degree_column n degree)) (Ok s) × (s ≢ sign.Zero)

-- a cost whose slope falls
abbrev pub Falls : Cost → Type 0
Falls (Quadratic square linear) = square <ℤ pos 0
Falls (Segments points) = OutputsRise points × ¬ SlopesDoNotFall points

-- why a row gives no cost; memory may be refused at any row
abbrev pub IsCostFault : Record → CostFault → Type 0
IsCostFault r (fault.Row f) = IsRowFault r f
IsCostFault r fault.Outputs = (points : List CostPoint) × ArePoints r points × ¬ OutputsRise points
IsCostFault r fault.Slopes = (cost : Cost) × SaysCost r cost × Falls cost
IsCostFault r fault.Memory = ⊤
