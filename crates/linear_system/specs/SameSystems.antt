-- Systems that agree at their names.
use Rattle.std.specs.Prelude.{◌≡◌, ℕ}
use Rattle.std.specs.List.{Contains}
use Rattle.linear_system.specs.Systems.{System}

-- the same names, with the same coefficients at these; prices and bounds may differ
pub record SameRows (s t : System) : Type 0 where
  pub variables : s.variables ≡ t.variables
  pub columns : s.columns ≡ t.columns
  pub rows : s.rows ≡ t.rows
  pub coefficient : (r j : ℕ) → Contains s.rows r → Contains s.columns j → s.coefficient r j ≡ t.coefficient r j

-- besides the same prices and bounds at these names
pub record SameSystem (s t : System) : Type 0 where
  pub same_rows : SameRows s t
  pub price : (j : ℕ) → Contains s.columns j → s.price j ≡ t.price j
  pub low : (w : ℕ) → Contains s.variables w → s.low w ≡ t.low w
  pub high : (w : ℕ) → Contains s.variables w → s.high w ≡ t.high w
