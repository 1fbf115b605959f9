-- What the definitions come to: the best dispatch, what is left after all pay, and when nothing is feasible.
-- Wood and Wollenberg: a dispatch that balances and is priced at cost is of least cost.
-- Schweppe and others, Spot Pricing of Electricity: loads pay what units are paid and what the limits earn.
use Rattle.std.specs.Prelude.{◌≡◌, ◌⊎◌, ℕ, List, [], length, All, Contains}
use Rattle.fraction_theory.specs.Fraction.{Fraction, ◌+ℚ◌, ◌*ℚ◌}
use Rattle.fraction_theory.specs.Sums.{sum_by}
use Rattle.fraction_theory.specs.Order.{◌≤ℚ◌, ◌<ℚ◌}
use Rattle.market_model.specs.declared.participants.Parts.{Parts}
use Rattle.market_model.specs.declared.answered.Duals.{Duals}
use Rattle.market_model.specs.Market.{IsMarket}
use Rattle.market_model.specs.Dispatch.{Dispatch, zero, places, balance}
use Rattle.market_model.specs.declared.limits.Row.{Row}
use Rattle.market_model.specs.LimitRows.{rows, limit, picked_up, row_flow, row_offset, row_factor}
use Rattle.market_model.specs.Optimality.{Feasible, Supports, up_of, down_of, welfare}
use Rattle.market_model.specs.Reserves.{offer_places, reserve_need}
use Rattle.market_model.specs.Settlement.{pay_of_reserve, rent, surplus}
use Rattle.market_model.specs.Infeasibility.{ShowsInfeasible}
use Rattle.market_model.specs.declared.participants.TransmissionRight.{TransmissionRight}
use Rattle.market_model.specs.Rights.{IsTransmissionRight, AreFeasibleTogether, paid_to_rights}
use Rattle.market_model.specs.Overrun.{Within}

-- a feasible dispatch that duals support has the greatest welfare of all feasible ones
abbrev pub LawOfTheOptimum : Type 0
LawOfTheOptimum = (m : Parts) (d : Duals Fraction) (x y : Dispatch) → IsMarket m → Feasible m x → Supports m x d → Feasible m y → welfare m y ≤ℚ welfare m x

-- where duals support a feasible dispatch, loads pay what units are paid for energy and what limits earn
abbrev pub LawOfTheSurplus : Type 0
LawOfTheSurplus = (m : Parts) (d : Duals Fraction) (x : Dispatch) → IsMarket m → Feasible m x → Supports m x d → surplus m x d ≡ sum_by (rent m x d) (rows m)

-- the offset of each row with a price above 0 is within its limit
abbrev pub HasOffsetsWithin : Parts → Duals Fraction → Type 0
HasOffsetsWithin m d = (r : Row) → Contains (rows m) r → (zero <ℚ up_of m d r) ⊎ (zero <ℚ down_of m d r) → Within (limit m r) (row_offset m r)

-- and then nothing is short for energy
abbrev pub LawOfItsSign : Type 0
LawOfItsSign = (m : Parts) (d : Duals Fraction) (x : Dispatch) → IsMarket m → Feasible m x → Supports m x d → HasOffsetsWithin m d → zero ≤ℚ surplus m x d

-- in balance, and with no limits, loads pay what units are paid, whatever the price of energy
abbrev pub LawOfNoLimits : Type 0
LawOfNoLimits = (m : Parts) (d : Duals Fraction) (x : Dispatch) → IsMarket m → rows m ≡ [] → balance m x ≡ zero → surplus m x d ≡ zero

-- the flow of a row by branch is its offset, what its factors make of the injections, and what is picked up of a lost unit's output
abbrev pub LawOfTheFlows : Type 0
LawOfTheFlows = (m : Parts) (p lost : ℕ → Fraction) (r : Row)
    → row_flow m p lost r ≡ (row_offset m r +ℚ sum_by (λ i. row_factor m r i *ℚ p i) (places (length m.buses))) +ℚ picked_up m lost r

-- where duals support a feasible dispatch, rights that are feasible together are paid at most the surplus
abbrev pub LawOfTheRights : Type 0
LawOfTheRights = (m : Parts) (d : Duals Fraction) (x : Dispatch) (rights : List TransmissionRight) → IsMarket m → Feasible m x → Supports m x d
    → All (IsTransmissionRight (length m.buses)) rights → AreFeasibleTogether m rights → paid_to_rights m d rights ≤ℚ surplus m x d

-- where duals support a feasible dispatch, reserve is paid its price for what is needed
abbrev pub LawOfTheReserve : Type 0
LawOfTheReserve = (m : Parts) (d : Duals Fraction) (x : Dispatch) → IsMarket m → Feasible m x → Supports m x d
    → sum_by (λ n. (pay_of_reserve x d n).paid) (offer_places m) ≡ d.reserve *ℚ reserve_need m

-- where duals show that nothing is feasible, no dispatch is (Farkas)
abbrev pub LawOfInfeasibility : Type 0
LawOfInfeasibility = (m : Parts) (d : Duals Fraction) (x : Dispatch) → IsMarket m → ShowsInfeasible m d → ¬ (Feasible m x)
