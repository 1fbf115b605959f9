-- The factors of a ring are those of branches that are all alike: they obey Kirchhoff's laws.
use Rattle.std.specs.Prelude.{◌≡◌, ◌≢◌, ℕ, ◌+◌, ◌<◌, ◌==◌, pos, if◌then◌else◌}
use Rattle.fraction_theory.specs.Fraction.{Fraction, whole, neg_ℚ, ◌+ℚ◌}
use Rattle.fraction_theory.specs.Sums.{sum_by}
use Rattle.market_model.specs.Dispatch.{places, zero}
use Rattle.market_model.specs.LimitRows.{loss_factor, shift_factor}
use Rattle.case_maker.specs.Rings.{ring_of}
use Rattle.market_data.specs.Scales.{IsRingSize}

-- of a MW that bus i puts in, what is put in at bus j
abbrev pub unit_injection : ℕ → ℕ → Fraction
unit_injection i j = if i == j then whole (pos 1) else zero

pub record ObeysKirchhoff (n seed : ℕ) : Type 0 where
  -- what leaves a bus behind the first one is what comes to it and what is put in there
  pub nodes : (j i : ℕ) → j + 1 < n → i < n → shift_factor (ring_of n seed) (j + 1) i ≡ shift_factor (ring_of n seed) j i +ℚ unit_injection i (j + 1)
  -- round the ring the flows come to nothing
  pub loop : (i : ℕ) → i < n → sum_by (λ l. shift_factor (ring_of n seed) l i) (places n) ≡ zero
  -- without a branch each other one carries less by what that one carried
  pub lost : (l lost : ℕ) → l < n → lost < n → l ≢ lost → loss_factor (ring_of n seed) l lost ≡ neg_ℚ (whole (pos 1))

abbrev pub LawOfTheFactors : Type 0
LawOfTheFactors = (n seed : ℕ) → IsRingSize n → ObeysKirchhoff n seed
