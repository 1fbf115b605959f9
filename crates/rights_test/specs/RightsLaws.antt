-- What the fit and the payments of rights come to.
-- Hogan, Contract Networks for Electric Power Transmission (1992): rights that flows could carry together are covered by the surplus.
use Rattle.std.specs.Prelude.{◌≡◌, ◌↔◌, ℕ, List, length, All}
use Rattle.fraction_theory.specs.Fraction.{Fraction}
use Rattle.fraction_theory.specs.Order.{◌≤ℚ◌}
use Rattle.market_model.specs.declared.answered.Duals.{Duals}
use Rattle.market_model.specs.declared.participants.Parts.{Parts}
use Rattle.market_model.specs.declared.participants.TransmissionRight.{TransmissionRight}
use Rattle.market_model.specs.Dispatch.{Dispatch}
use Rattle.market_model.specs.Market.{IsMarket}
use Rattle.market_model.specs.Rights.{IsTransmissionRight, AreFeasibleTogether}
use Rattle.market_model.specs.Settlement.{surplus}
use Rattle.market_model.specs.Optimality.{IsSupportedAt}
use Rattle.rights_test.specs.declared.right_parts.Fit.{Fit}
use Rattle.rights_test.specs.declared.right_parts.Fit.TheVariants.{Fits}
use Rattle.rights_test.specs.Fits.{IsFit}
use Rattle.rights_test.specs.Paid.{payments_of}

-- they fit exactly where they are feasible together
abbrev pub LawOfTheFit : Type 0
LawOfTheFit = (m : Parts) (rights : List TransmissionRight) (fit : Fit Fraction) → IsFit m rights fit → (fit ≡ Fits) ↔ AreFeasibleTogether m rights

-- rights have one fit
abbrev pub LawOfOneFit : Type 0
LawOfOneFit = (m : Parts) (rights : List TransmissionRight) (a b : Fit Fraction) → IsFit m rights a → IsFit m rights b → a ≡ b

-- where they fit, at the bus prices of duals that support a feasible dispatch, they are paid at most the surplus
abbrev pub LawOfCoveredPayments : Type 0
LawOfCoveredPayments = (m : Parts) (d : Duals Fraction) (x : Dispatch) (price : ℕ → Fraction) (rights : List TransmissionRight) → IsMarket m → IsSupportedAt m x price d → All (IsTransmissionRight (length m.buses)) rights → IsFit m rights Fits
    → (payments_of price rights).total ≤ℚ surplus m x d
