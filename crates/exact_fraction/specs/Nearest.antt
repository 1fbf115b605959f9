-- The whole number of units that is nearest to a fraction.
use Rattle.std.specs.Prelude.{◌≡◌, ℕ, ◌^◌, ℤ, pos, ◌≤ℤ◌}
use Rattle.fraction_theory.specs.Fraction.{Fraction, whole, over, ◌-ℚ◌, ◌*ℚ◌}
use Rattle.fraction_theory.specs.Order.{◌≤ℚ◌}
use Rattle.fraction_theory.specs.Signs.{abs_ℚ}

-- a fraction in units, of which 10^places are a whole
abbrev pub in_units : ℕ → Fraction → Fraction
in_units places q = whole (pos (10 ^ places)) *ℚ q

abbrev pub half : Fraction
half = over (pos 1) 2

-- It is at most half a unit away, and where two are as near, the one that is farther from 0.
pub record IsNearest (places : ℕ) (q : Fraction) (n : ℤ) : Type 0 where
  pub within : abs_ℚ (in_units places q -ℚ whole n) ≤ℚ half
  pub away : abs_ℚ (in_units places q -ℚ whole n) ≡ half → abs_ℚ (in_units places q) ≤ℚ abs_ℚ (whole n)

-- a number that is not less has no lesser nearest number
abbrev pub NearestKeepsOrder : Type 0
NearestKeepsOrder = (places : ℕ) (x y : Fraction) (m n : ℤ) → x ≤ℚ y → IsNearest places x m → IsNearest places y n → m ≤ℤ n

-- there is one nearest number
abbrev pub OneNearest : Type 0
OneNearest = (places : ℕ) (q : Fraction) (m n : ℤ) → IsNearest places q m → IsNearest places q n → m ≡ n
