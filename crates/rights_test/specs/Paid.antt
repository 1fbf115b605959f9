-- What rights are paid at prices for the buses.
-- Hogan, Contract Networks for Electric Power Transmission (1992).
use Rattle.std.specs.Prelude.{◌⊎◌, ℕ, List, [], ◌∷◌, map, Contains}
use Rattle.fraction_theory.specs.Fraction.{Fraction}
use Rattle.fraction_theory.specs.Sums.{Term, term_value, total}
use Rattle.exact_fraction.specs.declared.Op.TheVariants.{Minus}
use Rattle.exact_fraction.specs.declared.Passed.{Passed}
use Rattle.market_model.specs.declared.participants.TransmissionRight.{TransmissionRight}
use Rattle.market_model.specs.NamedSums.{IsRefusal}
use Rattle.market_model.specs.Rights.{right_term, right_terms}
use Rattle.market_model.specs.SumTables.{IsRefusedAmong}
use Rattle.rights_test.specs.declared.right_parts.Payments.{Payments}

-- each its MW at the price where it ends, less that where it begins, and these together
abbrev pub payments_of : (ℕ → Fraction) → List TransmissionRight → Payments Fraction
payments_of price rights = record { each = map (λ t. term_value (right_term price t)) rights; total = total (right_terms price rights) }

-- payments with each number as the fraction that it stands for
abbrev pub payments_at : {N : Type 0} → (N → Fraction) → Payments N → Payments Fraction
payments_at value p = record { each = map value p.each; total = value p.total }

-- what a right is paid, and what all are paid
pub data RightsPaymentSum (price : ℕ → Fraction) (rights : List TransmissionRight) : List Term → Type 0 where
  paid_to_right : (t : TransmissionRight) → Contains rights t → RightsPaymentSum price rights (right_term price t ∷ [])
  paid_to_all : RightsPaymentSum price rights (right_terms price rights)

-- an operation refused where rights are paid: in one of these, or the difference of the two prices of a right
abbrev pub IsPayRefusal : (ℕ → Fraction) → List TransmissionRight → ℕ → Passed Fraction → Type 0
IsPayRefusal price rights bound p =
    IsRefusedAmong (RightsPaymentSum price rights) bound p
    ⊎ ((t : TransmissionRight) × Contains rights t × IsRefusal Minus (price t.to) (price t.from) bound p)
