-- The numbers of a market at a choice of its system, each of a kind. Money is of none: only its sums may stand in a pair.
-- Source: own; the sums are those of the dispatch, of the prices and of the settlement.
use Rattle.std.specs.Prelude.{◌≡◌, Bool, not, ℕ, ◌<◌, List, length, Option, Some, None, ◌⊎◌, if◌then◌else◌}
use Rattle.std.specs.List.{Contains}
use Rattle.fraction_theory.specs.Fraction.{Fraction, whole, neg_ℚ}
use Rattle.fraction_theory.specs.Signs.{part_above}
use Rattle.fraction_theory.specs.Sums.{Term, prefix}
use Rattle.linear_system.specs.Choices.{Choice, basics}
use Rattle.linear_system.specs.Numbers.{Kind, Factor, Quantity, Price, SolvingNumber, SystemNumber}
use Rattle.simplex_theory.specs.Steps.{opposite_if}
use Rattle.simplex_theory.specs.Stuck.{multiplier}
use Rattle.market_model.specs.declared.participants.Parts.{Parts}
use Rattle.market_model.specs.declared.participants.Pickup.{Pickup}
use Rattle.market_model.specs.declared.answered.Duals.{Duals}
use Rattle.market_model.specs.Dispatch.{Dispatch, zero, bus_at, unit_at, empty}
use Rattle.market_model.specs.declared.limits.Row.{Row}
use Rattle.market_model.specs.LimitRows.{rows, limit, most_flow, shift_factor, loss_factor, share_value, line_offset}
use Rattle.market_model.specs.Optimality.{Taken, Feasible, Supports, up_of, down_of, net_shadow_price, room_price, bus_price, BestFor}
use Rattle.market_model.specs.Reserves.{reserve_need, reserve_units}
use Rattle.market_model.specs.Infeasibility.{ShowsInfeasible}
use Rattle.market_system.specs.MarketSystem.{balance_name, room_name, row_name, system_of, choice_dispatch, choice_duals, reserve_price_by}
use Rattle.market_system.specs.Growth.{PricesOnly}
use Rattle.market_model.specs.NamedSums.{SameSize}
use Rattle.market_model.specs.SumTables.{FlowSum, OffsetSum, FactorSum, OutputSum, PriceSum, BoundSum, ReserveSum, SettledSum, WorthSum, WelfareSum}

-- the choice's dispatch is feasible, and its duals support it
pub record IsRightChoice (m : Parts) (g : Taken) (h : Choice) : Type 0 where
  pub feasible : Feasible m (choice_dispatch m g h)
  pub supported : Supports m (choice_dispatch m g h) (choice_duals m g h)

-- nothing accepted, or the choice's dispatch where that is best for the rows and rooms
abbrev pub IsInjecting : Parts → Taken → Choice → Dispatch → Type 0
IsInjecting m g h x = (x ≡ empty m) ⊎ ((x ≡ choice_dispatch m g h) × BestFor m g x)

-- what a MW costs on each variable where a basic variable is stuck: its multipliers, with the one sign
abbrev pub stuck_cost : Choice → ℕ → Bool → ℕ → Fraction
stuck_cost h b above w = opposite_if (not above) (multiplier h b w)

-- duals that show that nothing is feasible, by one basic variable of the choice: the price of energy and those of limits are, up to sign,
-- what shows it, a limit has one on one side at most, and rows that were not taken have none; the prices of reserve and of rooms are what shows
-- it on the side on which the variable is stuck, each 0 where that is below 0, and without reserve its price is 0
pub record IsFarkasOf (m : Parts) (g : Taken) (h : Choice) (d : Duals Fraction) : Type 0 where
  pub shows : ShowsInfeasible m d
  pub basic : ℕ
  pub is_basic : Contains (basics (system_of m g) h) basic
  pub energy : SameSize d.energy (multiplier h basic (balance_name m))
  pub limits : (r : Row) → Contains g.limits r → SameSize (net_shadow_price m d r) (multiplier h basic (row_name m r))
  pub one_sided : (r : Row) → Contains g.limits r → (up_of m d r ≡ zero) ⊎ (down_of m d r ≡ zero)
  pub no_others : PricesOnly m g.limits d
  pub above : Bool
  pub reserve : d.reserve ≡ reserve_price_by m (stuck_cost h basic above)
  pub rooms : (u : ℕ) → Contains g.rooms u → Contains (reserve_units m) u → room_price m d u ≡ part_above (stuck_cost h basic above (room_name m u))
  pub no_other_rooms : (u : ℕ) → ¬ (Contains g.rooms u) → room_price m d u ≡ zero

-- The sums that may be added up at a choice: each with the kind of its first terms, its terms in order, and when it counts. What has no kind
-- may stand in a pair only where it is added up.
pub data NamedSum (m : Parts) (g : Taken) (h : Choice) : Option Kind → List Term → Type 0 where
  -- the fixed offset of a row, its factor at a bus, and its pickup factor
  offset_of : (r : Row) (terms : List Term) → Contains (rows m) r → OffsetSum m r terms → NamedSum m g h (Some Quantity) terms
  factor_of : (r : Row) (terms : List Term) → Contains (rows m) r → FactorSum m r terms → NamedSum m g h (Some Factor) terms
  -- injections and flows
  of_flow : (x : Dispatch) (terms : List Term) → IsInjecting m g h x → FlowSum m x terms → NamedSum m g h (Some Quantity) terms
  -- reserve that is accepted, and what is used of rooms
  of_reserve : (x : Dispatch) (terms : List Term) → IsInjecting m g h x → ReserveSum m x terms → NamedSum m g h (Some Quantity) terms
  -- at a right choice: a unit's output and prices, and the worth of units with reserve; and without a kind the welfare, and what its settlement adds up
  output_of : (terms : List Term) → IsRightChoice m g h → OutputSum m (choice_dispatch m g h) terms → NamedSum m g h (Some Quantity) terms
  of_price : (terms : List Term) → IsRightChoice m g h → PriceSum m (choice_duals m g h) terms → NamedSum m g h (Some Price) terms
  of_worth : (terms : List Term) → IsRightChoice m g h → WorthSum m (choice_duals m g h) terms → NamedSum m g h (Some Price) terms
  of_welfare : (terms : List Term) → IsRightChoice m g h → WelfareSum m (choice_dispatch m g h) terms → NamedSum m g h None terms
  of_settlement : (terms : List Term) → IsRightChoice m g h
      → SettledSum m (choice_dispatch m g h) (bus_price m (choice_duals m g h)) (choice_duals m g h) terms → NamedSum m g h None terms
  -- at duals that show that nothing is feasible: prices, and the bound
  of_farkas_price : (d : Duals Fraction) (terms : List Term) → IsFarkasOf m g h d → PriceSum m d terms → NamedSum m g h (Some Factor) terms
  of_farkas_worth : (d : Duals Fraction) (terms : List Term) → IsFarkasOf m g h d → WorthSum m d terms → NamedSum m g h (Some Factor) terms
  farkas_bound_of : (d : Duals Fraction) (terms : List Term) → IsFarkasOf m g h d → BoundSum m d terms → NamedSum m g h (Some Quantity) terms

-- x is a number of this kind. The number of terms k is free: a whole sum is the prefix of all its terms.
pub data MarketNumber (m : Parts) (g : Taken) (h : Choice) : Kind → Fraction → Type 0 where
  of_system : (kind : Kind) (x : Fraction) → SystemNumber (system_of m g) h kind x → MarketNumber m g h kind x
  -- the first terms of a sum
  of_sum : (kind : Kind) (terms : List Term) (k : ℕ) → NamedSum m g h (Some kind) terms → MarketNumber m g h kind (prefix k terms)
  -- data in MW; the quantity of a block is a bound of the system
  is_fixed : (u : ℕ) → u < length m.units → MarketNumber m g h Quantity (whole (unit_at m u).fixed)
  is_up : (u : ℕ) → u < length m.units → MarketNumber m g h Quantity (whole (unit_at m u).up)
  is_down : (u : ℕ) → u < length m.units → MarketNumber m g h Quantity (whole (unit_at m u).down)
  is_load : (i : ℕ) → i < length m.buses → MarketNumber m g h Quantity (whole (bus_at m i).pd)
  is_shunt : (i : ℕ) → i < length m.buses → MarketNumber m g h Quantity (whole (bus_at m i).gs)
  is_limit : (r : Row) → Contains (rows m) r → MarketNumber m g h Quantity (limit m r)
  is_most_flow : (r : Row) → Contains (rows m) r → MarketNumber m g h Quantity (most_flow m r)
  is_line_offset : (l : ℕ) → l < length m.lines → MarketNumber m g h Quantity (line_offset m l)
  is_need : MarketNumber m g h Quantity (reserve_need m)
  -- the factors of lines
  is_shift : (l i : ℕ) → l < length m.lines → i < length m.buses → MarketNumber m g h Factor (shift_factor m l i)
  is_loss : (l lost : ℕ) → l < length m.lines → lost < length m.lines → MarketNumber m g h Factor (loss_factor m l lost)
  -- what takers pick up at an outage of a unit
  is_share : (p : Pickup) → Contains m.pickups p → MarketNumber m g h Factor (share_value p)
  -- the duals of the choice, and those that show that nothing is feasible
  is_energy : MarketNumber m g h Price (choice_duals m g h).energy
  is_up_dual : (r : Row) → Contains (rows m) r → MarketNumber m g h Price (up_of m (choice_duals m g h) r)
  is_down_dual : (r : Row) → Contains (rows m) r → MarketNumber m g h Price (down_of m (choice_duals m g h) r)
  is_reserve_price : MarketNumber m g h Price (choice_duals m g h).reserve
  is_room_price : (u : ℕ) → Contains (reserve_units m) u → MarketNumber m g h Price (room_price m (choice_duals m g h) u)
  is_farkas_energy : (d : Duals Fraction) → IsFarkasOf m g h d → MarketNumber m g h Factor d.energy
  is_farkas_up : (d : Duals Fraction) (r : Row) → IsFarkasOf m g h d → Contains (rows m) r → MarketNumber m g h Factor (up_of m d r)
  is_farkas_down : (d : Duals Fraction) (r : Row) → IsFarkasOf m g h d → Contains (rows m) r → MarketNumber m g h Factor (down_of m d r)
  is_farkas_reserve : (d : Duals Fraction) → IsFarkasOf m g h d → MarketNumber m g h Factor d.reserve
  is_farkas_room : (d : Duals Fraction) (u : ℕ) → IsFarkasOf m g h d → Contains (reserve_units m) u → MarketNumber m g h Factor (room_price m d u)
  -- the opposite of a number, of the same kind
  of_opposite : (kind : Kind) (x : Fraction) → MarketNumber m g h kind x → MarketNumber m g h kind (neg_ℚ x)

-- A number that a clear may have to write down at a choice. The choice is any one of the system.
pub data ClearingNumber (m : Parts) (g : Taken) (h : Choice) : Fraction → Type 0 where
  of_kind : (kind : Kind) (x : Fraction) → MarketNumber m g h kind x → ClearingNumber m g h x
  -- besides the system's numbers, how far the leaving variable goes
  of_solving : (x : Fraction) → SolvingNumber (system_of m g) h x → ClearingNumber m g h x
  -- the first terms of the welfare, and of what the settlement adds up
  of_money : (terms : List Term) (k : ℕ) → NamedSum m g h None terms → ClearingNumber m g h (prefix k terms)
  -- the opposite of a number
  is_turned : (x : Fraction) → ClearingNumber m g h x → ClearingNumber m g h (neg_ℚ x)
