-- A fraction that is rounded to a whole number of 63 bits.
use Rattle.std.specs.Prelude.{◌≡◌, ◌^◌, ◌≤◌, ◌↔◌, IsTrue, ℤ, unsigned_abs}
use Rattle.fraction_theory.specs.Fraction.{Fraction, whole}
use Rattle.market_data.specs.Participants.{IsDatum}
use Rattle.exact_fraction.specs.Nearest.{IsNearest}
use Rattle.cost_steps.specs.declared.price.Rounded.{Rounded}

-- the nearest whole number, of which it is said whether it is the fraction itself
pub record IsRounded (q : Fraction) (rounded : Rounded) : Type 0 where
  pub nearest : IsNearest 0 q rounded.number
  pub fits : IsDatum rounded.number
  pub exact : IsTrue rounded.exact ↔ (whole rounded.number ≡ q)

-- the nearest whole number does not fit
abbrev pub IsBeyond : Fraction → Type 0
IsBeyond q = (n : ℤ) × IsNearest 0 q n × (2 ^ 63 ≤ unsigned_abs n)
