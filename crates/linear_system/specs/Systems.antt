-- Linear systems: columns with prices, rows that combine the columns, and bounds on every variable.
-- A variable is a name, and a point gives each name a number. A row has a name too, which stands for its activity.
-- Source: linear programs with bounded variables (Chvátal, Linear Programming); the names are own.
use Rattle.std.specs.Prelude.{◌≡◌, ℕ, List, ◌⊎◌}
use Rattle.std.specs.List.{Contains}
use Rattle.std.specs.List.Sorted.{IsStrictlyIncreasing}
use Rattle.fraction_theory.specs.Fraction.{Fraction, ◌*ℚ◌}
use Rattle.fraction_theory.specs.Order.{◌≤ℚ◌}
use Rattle.fraction_theory.specs.Sums.{sum_by}

-- What a system's functions are at other names than those that they are read at says nothing.
pub record System : Type 0 where
  -- all names, and those of the columns and of the rows
  pub variables : List ℕ
  pub columns : List ℕ
  pub rows : List ℕ
  -- of a row and a column
  pub coefficient : ℕ → ℕ → Fraction
  -- of a column
  pub price : ℕ → Fraction
  -- of a variable
  pub low : ℕ → Fraction
  pub high : ℕ → Fraction

-- The names ascend, and each variable is a column or a row, and not both.
pub record IsSystem (s : System) : Type 0 where
  pub ascending : IsStrictlyIncreasing s.variables
  pub columns_ascend : IsStrictlyIncreasing s.columns
  pub rows_ascend : IsStrictlyIncreasing s.rows
  pub column : (j : ℕ) → Contains s.columns j → Contains s.variables j
  pub row : (r : ℕ) → Contains s.rows r → Contains s.variables r
  pub either : (w : ℕ) → Contains s.variables w → Contains s.columns w ⊎ Contains s.rows w
  pub apart : (w : ℕ) → Contains s.columns w → ¬ (Contains s.rows w)

-- what row r makes of a point: the sum of its coefficients times the columns
unfoldable pub activity : System → (ℕ → Fraction) → ℕ → Fraction
activity s v r = sum_by (λ j. s.coefficient r j *ℚ v j) s.columns

-- At a point that meets the rows, each row's own variable is its activity.
pub record MeetsRows (s : System) (v : ℕ → Fraction) : Type 0 where
  pub row : (r : ℕ) → Contains s.rows r → v r ≡ activity s v r

-- Each variable is at least its low bound and at most its high bound.
pub record InBounds (s : System) (v : ℕ → Fraction) : Type 0 where
  pub low : (w : ℕ) → Contains s.variables w → s.low w ≤ℚ v w
  pub high : (w : ℕ) → Contains s.variables w → v w ≤ℚ s.high w

-- what a point is worth: the sum of prices times columns
unfoldable pub objective : System → (ℕ → Fraction) → Fraction
objective s v = sum_by (λ j. s.price j *ℚ v j) s.columns
