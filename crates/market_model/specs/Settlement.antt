-- What units are paid, for energy and for reserve, what loads pay, what is left, and what limits earn.
-- Schweppe and others, Spot Pricing of Electricity: the merchandising surplus. The offsets in rents are own.
use Rattle.std.specs.Prelude.{ℕ, List, [], ◌∷◌, length, map, ◌++◌}
use Rattle.fraction_theory.specs.Fraction.{Fraction, neg_ℚ, ◌+ℚ◌, ◌-ℚ◌}
use Rattle.fraction_theory.specs.Sums.{Term, Product, term_value, total, Plain}
use Rattle.market_model.specs.declared.answered.Load.{Load}
use Rattle.market_model.specs.declared.answered.ReservePay.{ReservePay}
use Rattle.market_model.specs.declared.answered.UnitPay.{UnitPay}
use Rattle.market_model.specs.declared.participants.Parts.{Parts}
use Rattle.market_model.specs.declared.answered.Duals.{Duals}
use Rattle.market_model.specs.Dispatch.{Dispatch, places, output, demand, reserved}
use Rattle.market_model.specs.Optimality.{bus_price, own_price, up_of, down_of}
use Rattle.market_model.specs.declared.limits.Row.{Row}
use Rattle.market_model.specs.LimitRows.{Carried, carried, flow_by, limit, row_offset}
use Rattle.market_model.specs.Overrun.{excess_by}
use Rattle.market_model.specs.NamedSums.{two_terms}

-- ---- at prices by bus, and the prices of rows
-- what a unit is paid for energy: its own price for its output
abbrev pub unit_term : Parts → Dispatch → (ℕ → Fraction) → Duals Fraction → ℕ → Term
unit_term m x price d u = Product (own_price m d price u) (output m x u)

-- what a load pays: the price of its bus for its demand
abbrev pub load_term : Parts → (ℕ → Fraction) → ℕ → Term
load_term m price i = Product (price i) (demand m i)

-- the two with their MW
abbrev pub pay_of_unit : Parts → Dispatch → (ℕ → Fraction) → Duals Fraction → ℕ → UnitPay Fraction
pay_of_unit m x price d u = record { mw = output m x u; paid = term_value (unit_term m x price d u) }

abbrev pub pay_of_load : Parts → (ℕ → Fraction) → ℕ → Load Fraction
pay_of_load m price i = record { mw = demand m i; pays = term_value (load_term m price i) }

-- each as a sum of one product
abbrev pub load_terms : Parts → (ℕ → Fraction) → ℕ → List Term
load_terms m price i = load_term m price i ∷ []

abbrev pub unit_terms : Parts → Dispatch → (ℕ → Fraction) → Duals Fraction → ℕ → List Term
unit_terms m x price d u = unit_term m x price d u ∷ []

-- what loads pay, and the opposite of what units are paid, one by one
abbrev pub paid_terms : List (Load Fraction) → List (UnitPay Fraction) → List Term
paid_terms loads units = map (λ load. Plain load.pays) loads ++ map (λ unit. Plain (neg_ℚ unit.paid)) units

-- by bus and by unit
abbrev pub surplus_terms_by : Parts → Dispatch → (ℕ → Fraction) → Duals Fraction → List Term
surplus_terms_by m x price d = paid_terms (map (pay_of_load m price) (places (length m.buses))) (map (pay_of_unit m x price d) (places (length m.units)))

-- what an offer of reserve is paid: the price of reserve for what is accepted of it
abbrev pub reserve_term : Dispatch → Duals Fraction → ℕ → Term
reserve_term x d n = Product d.reserve (reserved x n)

abbrev pub pay_of_reserve : Dispatch → Duals Fraction → ℕ → ReservePay Fraction
pay_of_reserve x d n = record { mw = reserved x n; paid = term_value (reserve_term x d n) }

-- ---- at the prices of duals
-- what a unit is paid for energy
unfoldable pub paid : Parts → Dispatch → Duals Fraction → ℕ → Fraction
paid m x d u = (pay_of_unit m x (bus_price m d) d u).paid

-- what a load pays for its demand
unfoldable pub pays : Parts → Duals Fraction → ℕ → Fraction
pays m d i = (pay_of_load m (bus_price m d) i).pays

abbrev pub surplus_terms : Parts → Dispatch → Duals Fraction → List Term
surplus_terms m x d = surplus_terms_by m x (bus_price m d) d

-- what loads pay less what units are paid for energy
unfoldable pub surplus : Parts → Dispatch → Duals Fraction → Fraction
surplus m x d = total (surplus_terms m x d)

-- the MW for which the prices of a row are paid, where its flow is f: its limit, and by how much the flow exceeds it
abbrev pub priced_flow : Parts → Row → Fraction → Fraction
priced_flow m r f = limit m r +ℚ excess_by m r f

-- what the upper price of a limit is paid for, where flows are paid for at this size and the flow has a fixed offset: the size less the offset
abbrev pub upper_terms : Fraction → Fraction → List Term
upper_terms size offset = two_terms size (neg_ℚ offset)

-- what its lower price is paid for: the two together
abbrev pub lower_terms : Fraction → Fraction → List Term
lower_terms size offset = two_terms size offset

-- what a limit earns at its upper and its lower price, each for what it is paid for
abbrev pub earned_terms : Fraction → Fraction → Fraction → Fraction → List Term
earned_terms up down size offset = Product up (size -ℚ offset) ∷ Product down (size +ℚ offset) ∷ []

-- what the limit of a row earns at two prices, where this is carried
abbrev pub rent_terms_by : Parts → Carried → Row → Fraction → Fraction → List Term
rent_terms_by m c r up down = earned_terms up down (priced_flow m r (flow_by m c r)) (row_offset m r)

-- the same at a dispatch and the prices of duals
abbrev pub rent_terms : Parts → Dispatch → Duals Fraction → Row → List Term
rent_terms m x d r = rent_terms_by m (carried m x) r (up_of m d r) (down_of m d r)

unfoldable pub rent : Parts → Dispatch → Duals Fraction → Row → Fraction
rent m x d r = total (rent_terms m x d r)
