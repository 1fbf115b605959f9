-- Numbers that are whole, as whole numbers.
use Rattle.std.specs.Prelude.{◌≡◌, ℕ, ℤ, List, Option, Some, None, slice_index_or}
use Rattle.fraction_theory.specs.Fraction.{Fraction, whole}
use Rattle.market_data.specs.Participants.{IsDatum}

-- x is the whole number n, whose size 63 bits hold
pub record IsWhole (x : Fraction) (n : ℤ) : Type 0 where
  pub is : x ≡ whole n
  pub small : IsDatum n

-- by place, a whole number that is there is the number
abbrev pub AreWholes : (ℕ → Fraction) → List (Option ℤ) → Type 0
AreWholes number wholes = (place : ℕ) (n : ℤ) → slice_index_or wholes place None ≡ Some n → IsWhole (number place) n
