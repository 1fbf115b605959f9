-- The prices that support a dispatch of a market, as the points of a linear system. Its columns are the opposites of prices, so that the most of
-- a column is the least of a price: energy's, that of reserve, those of limits and those of rooms. Its rows are the sum of all but energy's, what a
-- MW of each block's unit is worth at them, and a MW of the reserve of each offer.
-- Sources: Schweppe, Caramanis, Tabors and Bohn, Spot Pricing of Electricity, for the prices; Chvátal, Linear Programming, for complementary
-- slackness, which the bounds say. The form is own.
use Rattle.std.specs.Prelude.{◌≡◌, ℕ, ◌+◌, ◌*◌, ◌<◌, pos, Bool, true, List, [], ◌∷◌, ◌++◌, ◌==◌, ◌&&◌, if◌then◌else◌, length, map, reverse, Contains, slice_index_or}
use Rattle.std.specs.List.{flat_map, position_or_len}
use Rattle.fraction_theory.specs.Fraction.{Fraction, whole, neg_ℚ, ◌+ℚ◌, ◌*ℚ◌}
use Rattle.fraction_theory.specs.Order.{◌≤ℚ◌}
use Rattle.fraction_theory.specs.Signs.{abs_ℚ, sign_of}
use Rattle.linear_system.specs.Systems.{System}
use Rattle.market_model.specs.declared.answered.Dual.{Dual}
use Rattle.market_model.specs.declared.answered.Duals.{Duals}
use Rattle.market_model.specs.declared.answered.RoomDual.{RoomDual}
use Rattle.market_model.specs.declared.answered.RowId.{RowId}
use Rattle.market_model.specs.declared.limits.Row.{Row}
use Rattle.market_model.specs.declared.participants.Parts.{Parts}
use Rattle.market_model.specs.declared.participants.Side.{Side}
use Rattle.market_model.specs.declared.participants.Side.TheVariants.{Sell, Buy}
use Rattle.market_model.specs.Dispatch.{Dispatch, accepted, block_at, offer_at, places, quantity, reserve_quantity, reserved, unit_at, zero}
use Rattle.market_model.specs.LimitRows.{flow, limit, most_flow, penalty, row_id, rows, unit_factor}
use Rattle.market_model.specs.Optimality.{down_of, energy_worth, price, reserve_worth, room_price, up_of}
use Rattle.market_model.specs.Overrun.{Within}
use Rattle.market_model.specs.Reserves.{offer_places, offer_price, reserve, reserve_need, reserve_units, room, room_used}
use Rattle.limit_screen.specs.Reaching.{are_same, is_below, is_zero, reaches}
use Rattle.market_system.specs.MarketSystem.{at_unit, row_place}
use Rattle.one_price.specs.FirstPrices.{sum_of_prices}
use Rattle.price_system.specs.declared.variables.Variable.{Variable}
use Rattle.price_system.specs.declared.variables.Variable.TheVariants.{Energy, Reserve, Up, Down, Room, Sum, Block, Offer}

-- ---- variables
-- The prices of all limits of the market, and of the rooms of all units that offer reserve. Bounds hold at 0 those that have to be 0, which a
-- program may leave out.
abbrev pub two_sides : Row → List Variable
two_sides r = Up r ∷ Down r ∷ []

abbrev pub prices : Parts → List Variable
prices m = (Energy ∷ Reserve ∷ []) ++ (flat_map two_sides (rows m) ++ map Room (reserve_units m))

abbrev pub worths : Parts → List Variable
worths m = Sum ∷ (map Block (places (length m.blocks)) ++ map Offer (offer_places m))

abbrev pub variables : Parts → List Variable
variables m = prices m ++ worths m

-- a unit's place among those that offer reserve
abbrev pub room_place : Parts → ℕ → ℕ
room_place m u = position_or_len (λ w. u == w) (reserve_units m)

-- the names of the prices of limits, of rooms, and of the rows behind them
abbrev pub up_name : Parts → Row → ℕ
up_name m r = 2 + 2 * row_place m r

abbrev pub down_name : Parts → Row → ℕ
down_name m r = up_name m r + 1

abbrev pub room_name : Parts → ℕ → ℕ
room_name m u = 2 + 2 * length (rows m) + room_place m u

abbrev pub sum_name : Parts → ℕ
sum_name m = 2 + 2 * length (rows m) + length (reserve_units m)

abbrev pub block_name : Parts → ℕ → ℕ
block_name m j = sum_name m + 1 + j

abbrev pub offer_name : Parts → ℕ → ℕ
offer_name m n = block_name m (length m.blocks) + n

-- a variable's name is its place among all
abbrev pub name : Parts → Variable → ℕ
name m Energy = 0
name m Reserve = 1
name m (Up r) = up_name m r
name m (Down r) = down_name m r
name m (Room u) = room_name m u
name m Sum = sum_name m
name m (Block j) = block_name m j
name m (Offer n) = offer_name m n

-- the variable of a name; past the end, where nothing is asked, energy
abbrev pub variable_of : Parts → ℕ → Variable
variable_of m w = slice_index_or (variables m) w Energy

-- The order in which prices are made least: those of rooms from the last to the first, those of limits likewise, down before up, then that of
-- reserve, and energy's at last.
abbrev pub price_order : Parts → List ℕ
price_order m = reverse (map (name m) (prices m))

-- ---- coefficients
-- By how much the opposite of a price raises what a MW of a unit is worth: as energy, which pays the price of energy less what limits and its room
-- take; and as reserve.
abbrev pub energy_coefficient : Parts → ℕ → Variable → Fraction
energy_coefficient m u Energy = neg_ℚ (whole (pos 1))
energy_coefficient m u Reserve = zero
energy_coefficient m u (Up r) = unit_factor m r u
energy_coefficient m u (Down r) = neg_ℚ (unit_factor m r u)
energy_coefficient m u (Room w) = at_unit u w (whole (pos 1))
energy_coefficient m u Sum = zero
energy_coefficient m u (Block j) = zero
energy_coefficient m u (Offer n) = zero

abbrev pub reserve_coefficient : ℕ → Variable → Fraction
reserve_coefficient u Energy = zero
reserve_coefficient u Reserve = neg_ℚ (whole (pos 1))
reserve_coefficient u (Up r) = zero
reserve_coefficient u (Down r) = zero
reserve_coefficient u (Room w) = at_unit u w (whole (pos 1))
reserve_coefficient u Sum = zero
reserve_coefficient u (Block j) = zero
reserve_coefficient u (Offer n) = zero

-- each column counts alike but energy's, so that the best points are those of the least sum of prices without energy's
abbrev pub column_price : Variable → Fraction
column_price Energy = zero
column_price Reserve = whole (pos 1)
column_price (Up r) = whole (pos 1)
column_price (Down r) = whole (pos 1)
column_price (Room u) = whole (pos 1)
column_price Sum = zero
column_price (Block j) = zero
column_price (Offer n) = zero

-- of a row and a column
abbrev pub coefficient : Parts → Variable → Variable → Fraction
coefficient m Sum v = column_price v
coefficient m (Block j) v = energy_coefficient m (block_at m j).unit v
coefficient m (Offer n) v = reserve_coefficient (offer_at m n).unit v
coefficient m Energy v = zero
coefficient m Reserve v = zero
coefficient m (Up r) v = zero
coefficient m (Down r) v = zero
coefficient m (Room u) v = zero

-- ---- bounds
-- The most that all prices but energy's may add up to, a size that the factor of no block's unit is above for a row that is reached, and the
-- greatest size of energy's price.
pub record Caps : Type 0 where
  pub most : Fraction
  pub factor : Fraction
  pub range : Fraction

-- whether a number is 0
abbrev pub is_nil : Fraction → Bool
is_nil x = is_zero (sign_of x)

-- The price of a side of a limit, where the flow towards it is f: at least 0, and at least the penalty where the flow exceeds the limit; at most 0
-- where it is below the limit, at most the cap where it has just used up the excess, and else at most the penalty.
abbrev pub least_price : Parts → Row → Fraction → Fraction
least_price m r f = if is_below (limit m r) f then penalty m r else zero

abbrev pub most_price : Parts → Caps → Row → Fraction → Fraction
most_price m c r f = if is_below f (limit m r) then zero else if are_same f (most_flow m r) then c.most else penalty m r

-- that of a unit's room, which is 0 where the room is not used up
abbrev pub most_room_price : Parts → Dispatch → Caps → ℕ → Fraction
most_room_price m x c u = if are_same (room_used m x u) (room m u) then c.most else zero

-- that of reserve, which is 0 where more is accepted than is needed, and without reserve
abbrev pub most_reserve_price : Parts → Dispatch → Caps → Fraction
most_reserve_price m x c = if m.reserve.listed && are_same (reserve m x) (reserve_need m) then c.most else zero

-- the most that a MW of a unit may be worth, up or down, at prices within the caps
abbrev pub most_worth : Caps → Fraction
most_worth c = c.range +ℚ c.most *ℚ (whole (pos 1) +ℚ c.factor)

-- the least and the most that it may be at a block or an offer of a price: that, or the cap where it is free
abbrev pub least_by : Bool → Fraction → Fraction → Fraction
least_by free price cap = if free then neg_ℚ cap else price

abbrev pub most_by : Bool → Fraction → Fraction → Fraction
most_by free price cap = if free then cap else price

-- A seller may be below what a MW is worth where he sells all, and above it where he sells nothing; a buyer the other way.
abbrev pub least_worth : Side → (none whole : Bool) → Fraction → Fraction → Fraction
least_worth Sell none whole price cap = least_by none price cap
least_worth Buy none whole price cap = least_by whole price cap

abbrev pub greatest_worth : Side → (none whole : Bool) → Fraction → Fraction → Fraction
greatest_worth Sell none whole price cap = most_by whole price cap
greatest_worth Buy none whole price cap = most_by none price cap

abbrev pub low : Parts → Dispatch → Caps → Variable → Fraction
low m x c Energy = neg_ℚ c.range
low m x c Reserve = neg_ℚ (most_reserve_price m x c)
low m x c (Up r) = neg_ℚ (most_price m c r (flow m x r))
low m x c (Down r) = neg_ℚ (most_price m c r (neg_ℚ (flow m x r)))
low m x c (Room u) = neg_ℚ (most_room_price m x c u)
low m x c Sum = neg_ℚ c.most
low m x c (Block j) =
    least_worth (block_at m j).side (are_same (accepted x j) zero) (are_same (accepted x j) (quantity m j)) (price m j) (most_worth c)
low m x c (Offer n) = least_worth Sell (are_same (reserved x n) zero) (are_same (reserved x n) (reserve_quantity m n)) (offer_price m n) c.most

abbrev pub high : Parts → Dispatch → Caps → Variable → Fraction
high m x c Energy = c.range
high m x c Reserve = zero
high m x c (Up r) = neg_ℚ (least_price m r (flow m x r))
high m x c (Down r) = neg_ℚ (least_price m r (neg_ℚ (flow m x r)))
high m x c (Room u) = zero
high m x c Sum = zero
high m x c (Block j) =
    greatest_worth (block_at m j).side (are_same (accepted x j) zero) (are_same (accepted x j) (quantity m j)) (price m j) (most_worth c)
high m x c (Offer n) = greatest_worth Sell (are_same (reserved x n) zero) (are_same (reserved x n) (reserve_quantity m n)) (offer_price m n) c.most

-- ---- the system
unfoldable pub price_system : Parts → Dispatch → Caps → System
price_system m x c = record {
  variables = map (name m) (variables m);
  columns = map (name m) (prices m);
  rows = map (name m) (worths m);
  coefficient = λ r j. coefficient m (variable_of m r) (variable_of m j);
  price = λ j. column_price (variable_of m j);
  low = λ w. low m x c (variable_of m w);
  high = λ w. high m x c (variable_of m w);
}

-- ---- points and duals
-- a limit is named where one of its prices is not 0, and a room where its price is not
abbrev pub limit_dual : RowId → Fraction → Fraction → List (Dual Fraction)
limit_dual id up down = if is_nil up && is_nil down then [] else record { row = id; up = up; down = down } ∷ []

abbrev pub room_dual : ℕ → Fraction → List (RoomDual Fraction)
room_dual row price = if is_nil price then [] else record { unit = row; price = price } ∷ []

-- the duals of a point, in the market's order
abbrev pub duals_of : Parts → (ℕ → Fraction) → Duals Fraction
duals_of m v = record {
  energy = neg_ℚ (v (name m Energy));
  limits = flat_map (λ r. limit_dual (row_id m r) (neg_ℚ (v (up_name m r))) (neg_ℚ (v (down_name m r)))) (rows m);
  reserve = neg_ℚ (v (name m Reserve));
  rooms = flat_map (λ u. room_dual (unit_at m u).row (neg_ℚ (v (room_name m u)))) (reserve_units m);
}

-- the point of duals: the opposites of their prices, and what MW are worth at them
abbrev pub value_of : Parts → Duals Fraction → Variable → Fraction
value_of m d Energy = neg_ℚ d.energy
value_of m d Reserve = neg_ℚ d.reserve
value_of m d (Up r) = neg_ℚ (up_of m d r)
value_of m d (Down r) = neg_ℚ (down_of m d r)
value_of m d (Room u) = neg_ℚ (room_price m d u)
value_of m d Sum = neg_ℚ (sum_of_prices m d)
value_of m d (Block j) = energy_worth m d (block_at m j).unit
value_of m d (Offer n) = reserve_worth m d (offer_at m n).unit

abbrev pub point_of : Parts → Duals Fraction → ℕ → Fraction
point_of m d w = value_of m d (variable_of m w)

-- A size that the factor of no block's unit is above for a row that is reached. The prices of other rows have to be 0.
pub record IsFactorSize (m : Parts) (x : Dispatch) (size : Fraction) : Type 0 where
  pub sign : zero ≤ℚ size
  pub most : (r : Row) (j : ℕ) → Contains (rows m) r → reaches (flow m x r) (limit m r) ≡ true → j < length m.blocks
      → abs_ℚ (unit_factor m r (block_at m j).unit) ≤ℚ size

-- prices within the caps
pub record KeepsCaps (m : Parts) (x : Dispatch) (c : Caps) (d : Duals Fraction) : Type 0 where
  pub factor : IsFactorSize m x c.factor
  pub energy : Within c.range d.energy
  pub sum : sum_of_prices m d ≤ℚ c.most
