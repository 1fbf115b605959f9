-- The numbers of a system at a choice, each of a kind: those that solving the system by exchanges may have to write down.
-- They are read off the system and the choice alone, whatever led to it. A number counts with either sign.
-- Source: own; entries, values and reduced prices are those of dictionaries (Chvátal, Linear Programming).
use Rattle.std.specs.Prelude.{ℕ, ◌<◌, pos}
use Rattle.std.specs.List.{Contains}
use Rattle.fraction_theory.specs.Fraction.{Fraction, whole, neg_ℚ, ◌-ℚ◌}
use Rattle.fraction_theory.specs.Order.{◌<ℚ◌, ◌≤ℚ◌}
use Rattle.fraction_theory.specs.Sums.{prefix}
use Rattle.linear_system.specs.Systems.{System}
use Rattle.linear_system.specs.Choices.{Choice, basics, others, value, value_terms, row_entry_terms, reduced_terms}

pub data Kind : Type 0 where
  -- a pure number, as a coefficient
  Factor : Kind
  -- in the unit of the variables
  Quantity : Kind
  -- in the unit of the prices
  Price : Kind

-- x is a number of this kind. Each name is one of the list that its line says: the functions of a system and of a choice
-- say nothing at other names. The number of terms k is free: a whole sum is the prefix of all its terms.
pub data SystemNumber (s : System) (h : Choice) : Kind → Fraction → Type 0 where
  is_zero : SystemNumber s h Factor (whole (pos 0))
  is_one : SystemNumber s h Factor (whole (pos 1))
  -- of a row and a column
  is_coefficient : (r j : ℕ) → Contains s.rows r → Contains s.columns j → SystemNumber s h Factor (s.coefficient r j)
  -- of a basic and an other variable
  is_entry : (b w : ℕ) → Contains (basics s h) b → Contains (others s h) w → SystemNumber s h Factor (h.entry b w)
  -- the first terms of a row's entry at an other variable
  is_row_entry : (r w k : ℕ) → Contains s.rows r → Contains (others s h) w → SystemNumber s h Factor (prefix k (row_entry_terms s h r w))
  -- the bounds of a variable
  is_low : (w : ℕ) → Contains s.variables w → SystemNumber s h Quantity (s.low w)
  is_high : (w : ℕ) → Contains s.variables w → SystemNumber s h Quantity (s.high w)
  -- the first terms of the value of a basic variable; that of an other variable is a bound
  is_value : (b k : ℕ) → Contains (basics s h) b → SystemNumber s h Quantity (prefix k (value_terms s h b))
  -- of a column
  is_price : (j : ℕ) → Contains s.columns j → SystemNumber s h Price (s.price j)
  -- the first terms of the reduced price of an other variable; that of a basic variable is 0
  is_reduced : (w k : ℕ) → Contains (others s h) w → SystemNumber s h Price (prefix k (reduced_terms s h w))
  -- the opposite of a number, of the same kind
  is_opposite : (kind : Kind) (x : Fraction) → SystemNumber s h kind x → SystemNumber s h kind (neg_ℚ x)

-- where the other variables stand at their bounds, the basic variables of lesser names than b keep theirs
abbrev pub IsFirst : System → Choice → ℕ → Type 0
IsFirst s h b = (c : ℕ) → Contains (basics s h) c → c < b → (s.low c ≤ℚ value s h c) × (value s h c ≤ℚ s.high c)

-- a number that solving the system by exchanges may have to write down at a choice: one of its numbers, or how far its leaving variable goes,
-- which is the basic one of the least name beyond a bound
pub data SolvingNumber (s : System) (h : Choice) : Fraction → Type 0 where
  is_number : (kind : Kind) (x : Fraction) → SystemNumber s h kind x → SolvingNumber s h x
  is_fall : (b : ℕ) → Contains (basics s h) b → s.high b <ℚ value s h b → IsFirst s h b → SolvingNumber s h (s.high b -ℚ value s h b)
  is_rise : (b : ℕ) → Contains (basics s h) b → value s h b <ℚ s.low b → IsFirst s h b → SolvingNumber s h (value s h b -ℚ s.low b)
  is_turned : (x : Fraction) → SolvingNumber s h x → SolvingNumber s h (neg_ℚ x)
