-- Rights to what limits earn (financial transmission rights): each is paid, for so many MW from one bus to another, what these are worth
-- more there.
-- Hogan, Contract Networks for Electric Power Transmission (1992): rights that flows could carry together are covered by the surplus.
use Rattle.std.specs.Prelude.{◌==◌, ℕ, ◌<◌, pos, ◌≤ℤ◌, List, ◌++◌, map, filter}
use Rattle.fraction_theory.specs.Fraction.{Fraction, whole, neg_ℚ, ◌-ℚ◌}
use Rattle.fraction_theory.specs.Sums.{Term, Plain, Product, total}
use Rattle.market_model.specs.declared.answered.Duals.{Duals}
use Rattle.market_model.specs.declared.participants.Parts.{Parts}
use Rattle.market_model.specs.declared.participants.TransmissionRight.{TransmissionRight}
use Rattle.market_model.specs.Dispatch.{zero}
use Rattle.market_model.specs.LimitRows.{Carried, carried_by, rows, limit, flow_by}
use Rattle.market_model.specs.Optimality.{AreWithin, bus_price}

-- between two of so many buses
pub record IsTransmissionRight (buses : ℕ) (t : TransmissionRight) : Type 0 where
  pub from : t.from < buses
  pub to : t.to < buses
  pub mw : pos 0 ≤ℤ t.mw

-- the MW of the rights that begin at a bus
abbrev pub begin_terms : List TransmissionRight → ℕ → List Term
begin_terms rights i = map (λ t. Plain (whole t.mw)) (filter (λ t. t.from == i) rights)

-- what rights put in at a bus: that, less the MW of those that end there
abbrev pub rights_injection_terms : List TransmissionRight → ℕ → List Term
rights_injection_terms rights i = begin_terms rights i ++ map (λ t. Plain (neg_ℚ (whole t.mw))) (filter (λ t. t.to == i) rights)

unfoldable pub rights_injection : List TransmissionRight → ℕ → Fraction
rights_injection rights i = total (rights_injection_terms rights i)

-- what the network carries where rights are put in and nothing else: a unit that is lost puts out nothing of them
abbrev pub carried_for : Parts → List TransmissionRight → Carried
carried_for m rights = carried_by m (rights_injection rights) (λ k. zero)

-- put in together, rights meet all limits, whose excess is not theirs
abbrev pub AreFeasibleTogether : Parts → List TransmissionRight → Type 0
AreFeasibleTogether m rights = AreWithin (rows m) (limit m) (flow_by m (carried_for m rights))

-- what a right is paid: its MW at the price where it ends, less that where it begins
abbrev pub right_term : (ℕ → Fraction) → TransmissionRight → Term
right_term price t = Product (whole t.mw) (price t.to -ℚ price t.from)

abbrev pub right_terms : (ℕ → Fraction) → List TransmissionRight → List Term
right_terms price rights = map (right_term price) rights

-- what rights are paid at the bus prices of duals
unfoldable pub paid_to_rights : Parts → Duals Fraction → List TransmissionRight → Fraction
paid_to_rights m d rights = total (right_terms (bus_price m d) rights)
