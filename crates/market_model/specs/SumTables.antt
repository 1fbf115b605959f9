-- The sums of a market that are added up, each by its terms in order and in one place. A part is some of them, or other parts together.
-- Wood and Wollenberg: injections and flows; Schweppe and others, Spot Pricing of Electricity: prices and money.
use Rattle.std.specs.Prelude.{◌≡◌, ◌≢◌, ◌⊎◌, ℕ, ◌<◌, List, [], ◌∷◌, length, Contains}
use Rattle.fraction_theory.specs.Fraction.{Fraction}
use Rattle.fraction_theory.specs.Sums.{Term}
use Rattle.exact_fraction.specs.declared.Passed.{Passed}
use Rattle.market_model.specs.declared.answered.Duals.{Duals}
use Rattle.market_model.specs.declared.limits.Cause.TheVariants.{Base, UnitOutage}
use Rattle.market_model.specs.declared.limits.Row.{Row}
use Rattle.market_model.specs.declared.participants.Parts.{Parts}
use Rattle.market_model.specs.Dispatch.{Dispatch, injection, injection_terms, balance_terms, output_terms, demand_terms}
use Rattle.market_model.specs.Infeasibility.{farkas_terms}
use Rattle.market_model.specs.LimitRows.{Carried, carried, rows, line_terms, flow_by, flow_terms, lost_unit, offset_terms, factor_terms, pickup_terms, row_offset}
use Rattle.market_model.specs.NamedSums.{IsRefusedIn}
use Rattle.market_model.specs.Optimality.{bus_price, congestion_terms, named_rows, own_terms, price_terms, reserve_worth_terms, worth_terms, welfare_terms}
use Rattle.market_model.specs.Reserves.{reserve_terms, reserve_units, room_terms}
use Rattle.market_model.specs.Settlement.{surplus_terms_by, load_terms, lower_terms, priced_flow, rent_terms, reserve_term, unit_terms, upper_terms}

-- an operation refused where one of these sums is added up
abbrev pub IsRefusedAmong : (List Term → Type 0) → ℕ → Passed Fraction → Type 0
IsRefusedAmong IsSum bound p = (terms : List Term) × IsSum terms × IsRefusedIn terms bound p

-- ---- injections and flows
-- of a dispatch: what a bus puts in
pub data InjectionSum (m : Parts) (x : Dispatch) : List Term → Type 0 where
  injection_at : (i : ℕ) → i < length m.buses → InjectionSum m x (injection_terms m x i)

-- that, and all that buses put in
pub data BalanceSum (m : Parts) (x : Dispatch) : List Term → Type 0 where
  balance_from_bus : (terms : List Term) → InjectionSum m x terms → BalanceSum m x terms
  balance_of_all : BalanceSum m x (balance_terms m x)

-- where buses put in p: the flow of a line
pub data LineFlowSum (m : Parts) (p : ℕ → Fraction) : List Term → Type 0 where
  flow_of_line : (l : ℕ) → l < length m.lines → LineFlowSum m p (line_terms m p l)

-- where this is carried: the flow of a row
pub data RowFlowSum (m : Parts) (c : Carried) (r : Row) : List Term → Type 0 where
  flow_of_row : RowFlowSum m c r (flow_terms m c r)

-- of a dispatch: the output of the unit of an outage
pub data LostOutputSum (m : Parts) (x : Dispatch) : List Term → Type 0 where
  output_of_lost : (k : ℕ) → k < length m.unit_outages → LostOutputSum m x (output_terms m x (lost_unit m k))

-- what the network carries: the flow of a line, and the output of a lost unit
pub data CarriedSum (m : Parts) (x : Dispatch) : List Term → Type 0 where
  carried_on_line : (terms : List Term) → LineFlowSum m (injection m x) terms → CarriedSum m x terms
  carried_by_unit : (terms : List Term) → LostOutputSum m x terms → CarriedSum m x terms

-- that, and what a bus puts in
pub data NetworkSum (m : Parts) (x : Dispatch) : List Term → Type 0 where
  put_in_at_bus : (terms : List Term) → InjectionSum m x terms → NetworkSum m x terms
  carried_by_network : (terms : List Term) → CarriedSum m x terms → NetworkSum m x terms

-- what the network carries, and the flow of a row of the market
pub data LimitFlowSum (m : Parts) (x : Dispatch) : List Term → Type 0 where
  limited_by_carried : (terms : List Term) → CarriedSum m x terms → LimitFlowSum m x terms
  limited_row : (r : Row) (terms : List Term) → Contains (rows m) r → RowFlowSum m (carried m x) r terms → LimitFlowSum m x terms

-- all of these
pub data FlowSum (m : Parts) (x : Dispatch) : List Term → Type 0 where
  flow_in_balance : (terms : List Term) → BalanceSum m x terms → FlowSum m x terms
  flow_in_limits : (terms : List Term) → LimitFlowSum m x terms → FlowSum m x terms

-- the fixed offset of a row
pub data OffsetSum (m : Parts) (r : Row) : List Term → Type 0 where
  offset_of_row : OffsetSum m r (offset_terms m r)

-- after the loss of a unit its pickup factor
pub data PickupSum (m : Parts) (r : Row) : List Term → Type 0 where
  pickup_of_row : (k : ℕ) → r.cause ≡ UnitOutage k → PickupSum m r (pickup_terms m r.line k)

-- an operation refused where the flow of a row is added up, or its pickup factor
abbrev pub IsFlowRefusal : Parts → Carried → Row → ℕ → Passed Fraction → Type 0
IsFlowRefusal m c r bound p = IsRefusedAmong (RowFlowSum m c r) bound p ⊎ IsRefusedAmong (PickupSum m r) bound p

-- its factor at a bus
pub data BusFactorSum (m : Parts) (r : Row) : List Term → Type 0 where
  factor_at_bus : (i : ℕ) → i < length m.buses → BusFactorSum m r (factor_terms m r i)

-- that, and its pickup factor
pub data FactorSum (m : Parts) (r : Row) : List Term → Type 0 where
  factor_of_bus : (terms : List Term) → BusFactorSum m r terms → FactorSum m r terms
  factor_of_pickup : (terms : List Term) → PickupSum m r terms → FactorSum m r terms

-- an operation refused in the factor of one of these rows
abbrev pub IsFactorRefusal : Parts → List Row → ℕ → Passed Fraction → Type 0
IsFactorRefusal m g bound p = (r : Row) × Contains g r × IsRefusedAmong (FactorSum m r) bound p

-- the same of factors at buses alone
abbrev pub IsBusFactorRefusal : Parts → List Row → ℕ → Passed Fraction → Type 0
IsBusFactorRefusal m g bound p = (r : Row) × Contains g r × IsRefusedAmong (BusFactorSum m r) bound p

-- and of pickup factors alone
abbrev pub IsPickupRefusal : Parts → List Row → ℕ → Passed Fraction → Type 0
IsPickupRefusal m g bound p = (r : Row) × Contains g r × IsRefusedAmong (PickupSum m r) bound p

-- of a dispatch: the output of a unit
pub data OutputSum (m : Parts) (x : Dispatch) : List Term → Type 0 where
  output_of_unit : (u : ℕ) → u < length m.units → OutputSum m x (output_terms m x u)

-- of a dispatch: what a unit that offers reserve uses of its room
pub data RoomSum (m : Parts) (x : Dispatch) : List Term → Type 0 where
  used_of_room : (u : ℕ) → Contains (reserve_units m) u → RoomSum m x (room_terms m x u)

-- of a dispatch: the reserve that is accepted in all
pub data AcceptedSum (m : Parts) (x : Dispatch) : List Term → Type 0 where
  reserve_of_all : AcceptedSum m x (reserve_terms m x)

-- the two
pub data ReserveSum (m : Parts) (x : Dispatch) : List Term → Type 0 where
  reserve_in_room : (terms : List Term) → RoomSum m x terms → ReserveSum m x terms
  reserve_accepted : (terms : List Term) → AcceptedSum m x terms → ReserveSum m x terms

-- ---- prices
-- of duals: what limits take from the price at a bus, and that price
pub data BusPriceSum (m : Parts) (d : Duals Fraction) (i : ℕ) : List Term → Type 0 where
  congestion_at : BusPriceSum m d i (congestion_terms m d i)
  price_at : BusPriceSum m d i (price_terms m d i)

-- where buses have prices: the own price of a unit
pub data OwnPriceSum (m : Parts) (d : Duals Fraction) (price : ℕ → Fraction) : List Term → Type 0 where
  own_price_of_unit : (u : ℕ) → u < length m.units → OwnPriceSum m d price (own_terms m d price u)

-- the prices at every bus, and of every unit
pub data PriceSum (m : Parts) (d : Duals Fraction) : List Term → Type 0 where
  price_of_bus : (i : ℕ) (terms : List Term) → i < length m.buses → BusPriceSum m d i terms → PriceSum m d terms
  price_of_unit : (terms : List Term) → OwnPriceSum m d (bus_price m d) terms → PriceSum m d terms

-- of a unit that offers reserve: what a MW of its energy is worth, and of its reserve
pub data WorthSum (m : Parts) (d : Duals Fraction) : List Term → Type 0 where
  energy_of_unit : (u : ℕ) → Contains (reserve_units m) u → WorthSum m d (worth_terms m d u)
  reserve_of_unit : (u : ℕ) → Contains (reserve_units m) u → WorthSum m d (reserve_worth_terms m d u)

-- an operation refused in the prices at buses and of units: in one of their sums, or in the factor of a row that duals name
abbrev pub IsRefusedInPrices : Parts → Duals Fraction → ℕ → Passed Fraction → Type 0
IsRefusedInPrices m d bound p = IsRefusedAmong (PriceSum m d) bound p ⊎ IsFactorRefusal m (named_rows m d) bound p

-- the same of the prices at buses alone
abbrev pub IsRefusedInBusPrices : Parts → Duals Fraction → ℕ → Passed Fraction → Type 0
IsRefusedInBusPrices m d bound p = ((i : ℕ) × (i < length m.buses) × IsRefusedAmong (BusPriceSum m d i) bound p) ⊎ IsBusFactorRefusal m (named_rows m d) bound p

-- the same of the own prices of units alone, where buses have prices
abbrev pub IsRefusedInOwnPrices : Parts → Duals Fraction → (ℕ → Fraction) → ℕ → Passed Fraction → Type 0
IsRefusedInOwnPrices m d price bound p = IsRefusedAmong (OwnPriceSum m d price) bound p ⊎ IsPickupRefusal m (named_rows m d) bound p

-- the bound of duals that are to show that nothing is feasible
pub data BoundSum (m : Parts) (d : Duals Fraction) : List Term → Type 0 where
  farkas_bound_of_all : BoundSum m d (farkas_terms m d)

-- ---- money
-- of a dispatch: its welfare
pub data WelfareSum (m : Parts) (x : Dispatch) : List Term → Type 0 where
  welfare_of_all : WelfareSum m x (welfare_terms m x)

-- of payments at prices by bus: what a load pays, what a unit is paid, what is left, the rents of the rows that duals name, and what an offer of reserve is paid
pub data PaymentSum (m : Parts) (x : Dispatch) (price : ℕ → Fraction) (d : Duals Fraction) : List Term → Type 0 where
  paid_by_load : (i : ℕ) → i < length m.buses → PaymentSum m x price d (load_terms m price i)
  paid_to_unit : (u : ℕ) → u < length m.units → PaymentSum m x price d (unit_terms m x price d u)
  left_of_all : PaymentSum m x price d (surplus_terms_by m x price d)
  rent_of_row : (r : Row) → Contains (named_rows m d) r → PaymentSum m x price d (rent_terms m x d r)
  paid_for_reserve : (n : ℕ) → n < length m.reserve.offers → PaymentSum m x price d (reserve_term x d n ∷ [])

-- of a row whose prices are paid, where this is carried: its flow after an outage, its fixed offset, and what each of its prices is paid for
pub data PaidRowSum (m : Parts) (c : Carried) (r : Row) : List Term → Type 0 where
  flow_after_outage : (terms : List Term) → r.cause ≢ Base → RowFlowSum m c r terms → PaidRowSum m c r terms
  paid_offset : (terms : List Term) → OffsetSum m r terms → PaidRowSum m c r terms
  upper_of_row : PaidRowSum m c r (upper_terms (priced_flow m r (flow_by m c r)) (row_offset m r))
  lower_of_row : PaidRowSum m c r (lower_terms (priced_flow m r (flow_by m c r)) (row_offset m r))

-- of a settlement at prices by bus: the outputs and the own prices of units, the demands of buses, payments, and of each row that the duals name what is paid for
pub data SettledSum (m : Parts) (x : Dispatch) (price : ℕ → Fraction) (d : Duals Fraction) : List Term → Type 0 where
  paid_output : (terms : List Term) → OutputSum m x terms → SettledSum m x price d terms
  paid_price : (terms : List Term) → OwnPriceSum m d price terms → SettledSum m x price d terms
  demand_of_bus : (i : ℕ) → i < length m.buses → SettledSum m x price d (demand_terms m i)
  payment : (terms : List Term) → PaymentSum m x price d terms → SettledSum m x price d terms
  paid_row : (r : Row) (terms : List Term) → Contains (named_rows m d) r → PaidRowSum m (carried m x) r terms → SettledSum m x price d terms
