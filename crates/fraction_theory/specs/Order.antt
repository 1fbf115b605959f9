-- The order of fractions, by cross multiplication.
use Rattle.std.specs.Prelude.{pos, ◌*ℤ◌, ◌≤ℤ◌, ◌<ℤ◌}
use Rattle.fraction_theory.specs.Fraction.{Fraction}

infix 50 ◌≤ℚ◌
-- x is at most y
pub record ◌≤ℚ◌ (x y : Fraction) : Type 0 where
  pub cross : (x.num *ℤ pos y.den) ≤ℤ (y.num *ℤ pos x.den)

infix 50 ◌<ℚ◌
-- x is below y
pub record ◌<ℚ◌ (x y : Fraction) : Type 0 where
  pub cross : (x.num *ℤ pos y.den) <ℤ (y.num *ℤ pos x.den)

-- x is 0 or above
pub record NonNeg (x : Fraction) : Type 0 where
  pub sign : pos 0 ≤ℤ x.num
