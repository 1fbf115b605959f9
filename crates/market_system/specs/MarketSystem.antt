-- A market as a linear system over some of its limit rows and rooms: its blocks are columns, and the balance and the limit rows are rows. A soft
-- row has two columns more, by which its flow is above its limit or below the opposite of that. The activity of a limit row is what the
-- blocks add to its flow, less the first and with the second, so that it keeps within the limit. Offers of reserve are columns; where reserve is
-- cleared its need is a row, and each room that is taken is one.
-- Source: linear programs with bounded variables (Chvátal, Linear Programming), for the economic dispatch of Wood and
-- Wollenberg; the form is own.
use Rattle.std.specs.Prelude.{◌≡◌, ℕ, ◌+◌, ◌*◌, ◌<◌, pos, Bool, true, false, List, [], ◌∷◌, ◌++◌, ◌==◌, ◌&&◌, ◌||◌, if◌then◌else◌, length, map, filter, Contains}
use Rattle.std.specs.List.{flat_map, position_or_len}
use Rattle.fraction_theory.specs.Fraction.{Fraction, whole, neg_ℚ, ◌+ℚ◌, ◌-ℚ◌}
use Rattle.fraction_theory.specs.Signs.{part_above, sign_of}
use Rattle.fraction_theory.specs.Sums.{Term, Plain, total}
use Rattle.fraction_theory.specs.declared.Sign.{Sign}
use Rattle.fraction_theory.specs.declared.Sign.TheVariants.{Below, Zero, Above}
use Rattle.linear_system.specs.Systems.{System}
use Rattle.linear_system.specs.Choices.{Choice, value, reduced}
use Rattle.market_model.specs.declared.participants.Parts.{Parts}
use Rattle.market_model.specs.declared.answered.Dual.{Dual}
use Rattle.market_model.specs.declared.answered.Duals.{Duals}
use Rattle.market_model.specs.declared.answered.RowId.{RowId}
use Rattle.market_model.specs.declared.answered.RoomDual.{RoomDual}
use Rattle.market_model.specs.Dispatch.{Dispatch, zero, places, block_at, offer_at, unit_at, signed_by_side, quantity, reserve_quantity, balance, empty, dispatch_with}
use Rattle.market_model.specs.declared.limits.Cause.{Cause}
use Rattle.market_model.specs.declared.limits.Row.{Row}
use Rattle.market_model.specs.declared.limits.Cause.TheVariants.{Base, Branch, UnitOutage}
use Rattle.market_model.specs.LimitRows.{rows, row_id, unit_factor, flow, limit, penalty, most_excess, is_soft}
use Rattle.market_model.specs.Optimality.{Taken, block_value}
use Rattle.market_model.specs.Reserves.{offer_places, reserve_need, offer_price, reserve_units, room}
use Rattle.market_system.specs.declared.variables.Variable.{Variable}
use Rattle.market_system.specs.declared.variables.Variable.TheVariants.{Block, Balance, Limit, Over, Under, Offer, Need, Room}

-- the balance's name, behind the places of the blocks
abbrev pub balance_name : Parts → ℕ
balance_name m = length m.blocks

abbrev pub same_cause : Cause → Cause → Bool
same_cause Base Base = true
same_cause Base (Branch k) = false
same_cause Base (UnitOutage k) = false
same_cause (Branch j) Base = false
same_cause (Branch j) (Branch k) = j == k
same_cause (Branch j) (UnitOutage k) = false
same_cause (UnitOutage j) Base = false
same_cause (UnitOutage j) (Branch k) = false
same_cause (UnitOutage j) (UnitOutage k) = j == k

abbrev pub same_row : Row → Row → Bool
same_row a b = (a.line == b.line) && same_cause a.cause b.cause

-- whether a row is in a list
abbrev pub is_in : List Row → Row → Bool
is_in [] r = false
is_in (t ∷ ts) r = same_row t r || is_in ts r

-- the rows of a list in the market's order, and none of an empty one
abbrev pub in_order : Parts → List Row → List Row
in_order m [] = []
in_order m (t ∷ ts) = filter (is_in (t ∷ ts)) (rows m)

-- a row's place among those of the market
abbrev pub row_place : Parts → Row → ℕ
row_place m r = position_or_len (same_row r) (rows m)

-- its name: that, behind the blocks and the balance
abbrev pub row_name : Parts → Row → ℕ
row_name m r = length m.blocks + 1 + row_place m r

-- the names of its columns: two for each row, behind all rows
abbrev pub over_name : Parts → Row → ℕ
over_name m r = length m.blocks + 1 + length (rows m) + 2 * row_place m r

abbrev pub under_name : Parts → Row → ℕ
under_name m r = over_name m r + 1

-- the names of offers of reserve, behind these, of the need, and of rooms by the places of their units
abbrev pub offer_name : Parts → ℕ → ℕ
offer_name m n = length m.blocks + 1 + 3 * length (rows m) + n

abbrev pub need_name : Parts → ℕ
need_name m = offer_name m (length m.reserve.offers)

abbrev pub room_name : Parts → ℕ → ℕ
room_name m u = need_name m + 1 + u

-- whether a unit is in a list; rooms are of units that offer reserve, in the order of the units, and none of an empty list
abbrev pub is_among : List ℕ → ℕ → Bool
is_among [] u = false
is_among (t ∷ ts) u = (t == u) || is_among ts u

abbrev pub rooms_in_order : Parts → List ℕ → List ℕ
rooms_in_order m [] = []
rooms_in_order m (t ∷ ts) = filter (is_among (t ∷ ts)) (reserve_units m)

-- what is taken in the market's order
abbrev pub taken_in_order : Parts → Taken → Taken
taken_in_order m t = record { limits = in_order m t.limits; rooms = rooms_in_order m t.rooms }

-- by how much a MW of a block raises the balance
abbrev pub block_sign : Parts → ℕ → Fraction
block_sign m j = signed_by_side (block_at m j).side (whole (pos 1))

-- what the blocks have to raise: the opposite of the balance with nothing accepted
abbrev pub residual_demand : Parts → Fraction
residual_demand m = neg_ℚ (balance m (empty m))

-- by how much a MW of a block raises the flow of a row
abbrev pub block_coefficient : Parts → Row → ℕ → Fraction
block_coefficient m r j = signed_by_side (block_at m j).side (unit_factor m r (block_at m j).unit)

-- what the blocks may add to the flow of a row, which is what nothing accepted leaves of its limit on either side
abbrev pub least_added : Parts → Row → Fraction
least_added m r = neg_ℚ (limit m r) -ℚ flow m (empty m) r

abbrev pub most_added : Parts → Row → Fraction
most_added m r = limit m r -ℚ flow m (empty m) r

-- the reserve that may be accepted in all, offer by offer
abbrev pub offered_terms : Parts → List Term
offered_terms m = map (λ n. Plain (reserve_quantity m n)) (offer_places m)

abbrev pub reserve_offered : Parts → Fraction
reserve_offered m = total (offered_terms m)

-- the most that the need's row is to keep: that, or the need where it is more
abbrev pub most_reserve : Parts → Fraction
most_reserve m = reserve_need m +ℚ part_above (reserve_offered m -ℚ reserve_need m)

-- ---- what a variable has, by kind
-- Its name: a block's is its place, the balance's is the next, and limit rows follow in the market's order, then the columns of soft rows, the
-- offers of reserve, the need and the rooms. So names ascend in the order in which sums over variables are added.
abbrev pub name : Parts → Variable → ℕ
name m (Block j) = j
name m Balance = balance_name m
name m (Limit r) = row_name m r
name m (Over r) = over_name m r
name m (Under r) = under_name m r
name m (Offer n) = offer_name m n
name m Need = need_name m
name m (Room u) = room_name m u

-- a number at the row itself, and 0 at others
abbrev pub at_row : Row → Row → Fraction → Fraction
at_row r s x = if same_row r s then x else zero

-- by how much a MW of a column raises the balance, and a limit row
abbrev pub balance_coefficient : Parts → Variable → Fraction
balance_coefficient m (Block j) = block_sign m j
balance_coefficient m Balance = zero
balance_coefficient m (Limit s) = zero
balance_coefficient m (Over s) = zero
balance_coefficient m (Under s) = zero
balance_coefficient m (Offer n) = zero
balance_coefficient m Need = zero
balance_coefficient m (Room u) = zero

abbrev pub limit_coefficient : Parts → Row → Variable → Fraction
limit_coefficient m r (Block j) = block_coefficient m r j
limit_coefficient m r Balance = zero
limit_coefficient m r (Limit s) = zero
limit_coefficient m r (Over s) = at_row r s (neg_ℚ (whole (pos 1)))
limit_coefficient m r (Under s) = at_row r s (whole (pos 1))
limit_coefficient m r (Offer n) = zero
limit_coefficient m r Need = zero
limit_coefficient m r (Room u) = zero

-- a number at the unit itself, and 0 at others
abbrev pub at_unit : ℕ → ℕ → Fraction → Fraction
at_unit u w x = if w == u then x else zero

-- by how much a MW of a column raises the reserve, and what a unit uses of its room
abbrev pub need_coefficient : Variable → Fraction
need_coefficient (Block j) = zero
need_coefficient Balance = zero
need_coefficient (Limit s) = zero
need_coefficient (Over s) = zero
need_coefficient (Under s) = zero
need_coefficient (Offer n) = whole (pos 1)
need_coefficient Need = zero
need_coefficient (Room u) = zero

abbrev pub room_coefficient : Parts → ℕ → Variable → Fraction
room_coefficient m u (Block j) = at_unit u (block_at m j).unit (block_sign m j)
room_coefficient m u Balance = zero
room_coefficient m u (Limit s) = zero
room_coefficient m u (Over s) = zero
room_coefficient m u (Under s) = zero
room_coefficient m u (Offer n) = at_unit u (offer_at m n).unit (whole (pos 1))
room_coefficient m u Need = zero
room_coefficient m u (Room w) = zero

-- by how much a MW of a column raises a row; the balance, limit rows, the need and rooms are the rows
abbrev pub coefficient : Parts → Variable → Variable → Fraction
coefficient m Balance v = balance_coefficient m v
coefficient m (Limit r) v = limit_coefficient m r v
coefficient m (Block k) v = zero
coefficient m (Over r) v = zero
coefficient m (Under r) v = zero
coefficient m (Offer n) v = zero
coefficient m Need v = need_coefficient v
coefficient m (Room u) v = room_coefficient m u v

-- what a MW of it is worth
abbrev pub objective_price : Parts → Variable → Fraction
objective_price m (Block j) = block_value m j
objective_price m Balance = zero
objective_price m (Limit r) = zero
objective_price m (Over r) = neg_ℚ (penalty m r)
objective_price m (Under r) = neg_ℚ (penalty m r)
objective_price m (Offer n) = neg_ℚ (offer_price m n)
objective_price m Need = zero
objective_price m (Room u) = zero

-- its bounds
abbrev pub low : Parts → Variable → Fraction
low m (Block j) = zero
low m Balance = residual_demand m
low m (Limit r) = least_added m r
low m (Over r) = zero
low m (Under r) = zero
low m (Offer n) = zero
low m Need = reserve_need m
low m (Room u) = neg_ℚ (whole (unit_at m u).down)

abbrev pub high : Parts → Variable → Fraction
high m (Block j) = quantity m j
high m Balance = residual_demand m
high m (Limit r) = most_added m r
high m (Over r) = most_excess m r
high m (Under r) = most_excess m r
high m (Offer n) = reserve_quantity m n
high m Need = most_reserve m
high m (Room u) = room m u

-- ---- the variables over limit rows and rooms that are in the market's order
abbrev pub block_columns : Parts → List Variable
block_columns m = map Block (places (length m.blocks))

-- the columns of the soft rows
abbrev pub excess_columns : Parts → List Row → List Variable
excess_columns m rs = flat_map (λ r. Over r ∷ Under r ∷ []) (filter (is_soft m) rs)

abbrev pub offer_columns : Parts → List Variable
offer_columns m = map Offer (offer_places m)

abbrev pub columns : Parts → Taken → List Variable
columns m t = block_columns m ++ excess_columns m t.limits ++ offer_columns m

-- the row of the need where reserve is cleared
abbrev pub need_row : Parts → List Variable
need_row m = if m.reserve.listed then Need ∷ [] else []

-- the rows of energy, and those of reserve
abbrev pub energy_rows : Taken → List Variable
energy_rows t = Balance ∷ map Limit t.limits

abbrev pub reserve_rows : Parts → Taken → List Variable
reserve_rows m t = need_row m ++ map Room t.rooms

abbrev pub row_variables : Parts → Taken → List Variable
row_variables m t = energy_rows t ++ reserve_rows m t

abbrev pub variables : Parts → Taken → List Variable
variables m t = block_columns m ++ energy_rows t ++ excess_columns m t.limits ++ offer_columns m ++ reserve_rows m t

-- what makes a variable one of these
abbrev pub IsVariableOf : Parts → Taken → Variable → Type 0
IsVariableOf m t (Block j) = j < length m.blocks
IsVariableOf m t Balance = Unit {0}
IsVariableOf m t (Limit r) = Contains t.limits r
IsVariableOf m t (Over r) = Contains t.limits r × (is_soft m r ≡ true)
IsVariableOf m t (Under r) = Contains t.limits r × (is_soft m r ≡ true)
IsVariableOf m t (Offer n) = n < length m.reserve.offers
IsVariableOf m t Need = m.reserve.listed ≡ true
IsVariableOf m t (Room u) = Contains t.rooms u

-- the variable of a name in a list; a name that none of them has stands for the balance, and nothing is asked of it
abbrev pub named : (Variable → ℕ) → List Variable → ℕ → Variable
named name_of [] w = Balance
named name_of (v ∷ vs) w = if w == name_of v then v else named name_of vs w

abbrev pub variable_of : Parts → Taken → ℕ → Variable
variable_of m t w = named (name m) (variables m t) w

-- the system of a market over them, by name
unfoldable pub system_over : Parts → Taken → System
system_over m t = record {
  variables = map (name m) (variables m t);
  columns = map (name m) (columns m t);
  rows = map (name m) (row_variables m t);
  coefficient = λ r j. coefficient m (variable_of m t r) (variable_of m t j);
  price = λ j. objective_price m (variable_of m t j);
  low = λ w. low m (variable_of m t w);
  high = λ w. high m (variable_of m t w);
}

-- the system of a market over limit rows and rooms, whatever the order of their lists
abbrev pub system_of : Parts → Taken → System
system_of m t = system_over m (taken_in_order m t)

-- the dispatch of a point: its values at the blocks and at the offers of reserve
abbrev pub point_dispatch : Parts → (ℕ → Fraction) → Dispatch
point_dispatch m v = dispatch_with (map v (places (length m.blocks))) (map (λ n. v (offer_name m n)) (offer_places m))

-- that of a choice
abbrev pub choice_dispatch : Parts → Taken → Choice → Dispatch
choice_dispatch m t h = point_dispatch m (value (system_of m t) h)

-- the prices of a row by what a MW on its flow costs: of the upper side where that is above 0, of the lower one where it is below
abbrev pub dual_by : RowId → Fraction → Sign → List (Dual Fraction)
dual_by id x Below = record { row = id; up = zero; down = neg_ℚ x } ∷ []
dual_by id x Zero = []
dual_by id x Above = record { row = id; up = x; down = zero } ∷ []

-- the price of a unit's room by what a MW costs on it, where that is above 0
abbrev pub room_dual_by : ℕ → Fraction → Sign → List (RoomDual Fraction)
room_dual_by row x Below = []
room_dual_by row x Zero = []
room_dual_by row x Above = record { unit = row; price = x } ∷ []

-- the price of reserve by what a MW costs on each variable: the opposite of that on the need, 0 where that is below 0 and without reserve
abbrev pub reserve_price_by : Parts → (ℕ → Fraction) → Fraction
reserve_price_by m cost = if m.reserve.listed then part_above (neg_ℚ (cost (need_name m))) else zero

-- the duals of what a MW costs on each variable, by name: the price of energy is the opposite of what it costs on the balance, and the prices
-- of the rows are by what it costs on their flows, in the market's order; a row for which that is 0 is not named. The prices of rooms are what
-- it costs on these, each 0 where that is below 0.
abbrev pub duals_by_cost : Parts → Taken → (ℕ → Fraction) → Duals Fraction
duals_by_cost m t cost = record {
  energy = neg_ℚ (cost (balance_name m));
  limits = flat_map (λ r. dual_by (row_id m r) (cost (row_name m r)) (sign_of (cost (row_name m r)))) (in_order m t.limits);
  reserve = reserve_price_by m cost;
  rooms = flat_map (λ u. room_dual_by (unit_at m u).row (cost (room_name m u)) (sign_of (cost (room_name m u)))) (rooms_in_order m t.rooms);
}

-- the duals of a choice are those of its reduced prices
abbrev pub choice_duals : Parts → Taken → Choice → Duals Fraction
choice_duals m t h = duals_by_cost m t (reduced (system_of m t) h)
