-- The whole part of a fraction.
-- Knuth, The Art of Computer Programming, volume 1, section 1.2.4: the floor of a number.
use Rattle.std.specs.Prelude.{ℤ, pos, ◌+ℤ◌}
use Rattle.fraction_theory.specs.Fraction.{Fraction, whole}
use Rattle.fraction_theory.specs.Order.{◌<ℚ◌, ◌≤ℚ◌}

-- n is the greatest whole number that is not above x
pub record IsFloor (x : Fraction) (n : ℤ) : Type 0 where
  pub least : whole n ≤ℚ x
  pub next : x <ℚ whole (n +ℤ pos 1)
