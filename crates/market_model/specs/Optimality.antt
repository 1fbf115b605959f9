-- Feasible dispatches, their welfare, and the duals that support one.
-- Schweppe, Caramanis, Tabors and Bohn, Spot Pricing of Electricity: a bus price is the price of energy less what the
-- limits take. A unit's own price is that at its bus, less what the limits after its loss take. The price of its room is taken from what a MW
-- of it is worth, as energy at its own price and as reserve at that of reserve. A seller whose offer is below the worth of its energy sells all,
-- one whose offer is above it nothing, and a buyer the other way.
use Rattle.std.specs.Prelude.{◌≡◌, ◌⊎◌, ◌==◌, ◌&&◌, ◌||◌, ℕ, ◌<◌, Bool, false, List, [], ◌∷◌, ◌++◌, length, map, filter, All, Contains, if◌then◌else◌}
use Rattle.fraction_theory.specs.Fraction.{Fraction, whole, neg_ℚ, ◌+ℚ◌, ◌-ℚ◌}
use Rattle.fraction_theory.specs.Order.{◌<ℚ◌, ◌≤ℚ◌}
use Rattle.fraction_theory.specs.Sums.{Term, Plain, Product, total}
use Rattle.market_model.specs.declared.participants.Side.{Side}
use Rattle.market_model.specs.declared.participants.Side.TheVariants.{Sell, Buy}
use Rattle.market_model.specs.declared.participants.Parts.{Parts}
use Rattle.market_model.specs.declared.answered.Dual.{Dual}
use Rattle.market_model.specs.declared.answered.Duals.{Duals}
use Rattle.market_model.specs.declared.answered.RoomDual.{RoomDual}
use Rattle.market_model.specs.declared.answered.RowId.{RowId}
use Rattle.market_model.specs.Dispatch.{Dispatch, IsDispatch, zero, places, block_at, unit_at, offer_at, signed_by_side, accepted, quantity, reserved, reserve_quantity, balance}
use Rattle.market_model.specs.declared.limits.Row.{Row}
use Rattle.market_model.specs.LimitRows.{rows, row_id, limit, loses_unit, most_flow, penalty, is_soft, row_factor, row_pickup, flow}
use Rattle.market_model.specs.Overrun.{excess, Within}
use Rattle.market_model.specs.Reserves.{offers_reserve, reserve, reserve_cost_terms, reserve_need, offer_price, reserve_units, room, room_used, KeepRooms}
use Rattle.market_model.specs.NamedSums.{two_terms}

-- the flow f of each of these rows is at most so much on either side
abbrev pub AreWithin : List Row → (Row → Fraction) → (Row → Fraction) → Type 0
AreWithin g most f = (r : Row) → Contains g r → Within (most r) (f r)

-- some of what a market has to keep: limit rows, and units whose room their energy and their reserve share
pub record Taken : Type 0 where
  pub limits : List Row
  pub rooms : List ℕ

-- all of it
abbrev pub all_of : Parts → Taken
all_of m = record { limits = rows m; rooms = reserve_units m }

-- limit rows alone
abbrev pub rows_alone : List Row → Taken
rows_alone g = record { limits = g; rooms = [] }

-- within the blocks' and offers' bounds, in balance and with the reserve that is needed, and within these limits and rooms
pub record FeasibleFor (m : Parts) (t : Taken) (x : Dispatch) : Type 0 where
  pub blocks : IsDispatch m x
  pub balanced : balance m x ≡ zero
  pub limits : AreWithin t.limits (most_flow m) (flow m x)
  pub need : reserve_need m ≤ℚ reserve m x
  pub rooms : KeepRooms m t.rooms x

-- within all limits and rooms
abbrev pub Feasible : Parts → Dispatch → Type 0
Feasible m x = FeasibleFor m (all_of m) x

abbrev pub price : Parts → ℕ → Fraction
price m j = whole (block_at m j).price

-- what accepting a MW of a block is worth: a buy's price, and the negative of a sell's
abbrev pub block_value : Parts → ℕ → Fraction
block_value m j = neg_ℚ (signed_by_side (block_at m j).side (price m j))

abbrev pub block_value_terms : Parts → Dispatch → List Term
block_value_terms m x = map (λ j. Product (block_value m j) (accepted x j)) (places (length m.blocks))

-- what the soft limits among some rows cost: each its penalty for the excess of its flow
abbrev pub penalty_terms : Parts → List Row → Dispatch → List Term
penalty_terms m g x = map (λ r. Product (neg_ℚ (penalty m r)) (excess m x r)) (filter (is_soft m) g)

abbrev pub welfare_terms_for : Parts → List Row → Dispatch → List Term
welfare_terms_for m g x = block_value_terms m x ++ penalty_terms m g x ++ reserve_cost_terms m x

-- the value of what is bought less the cost of what is sold, and less the penalties of these rows and the cost of reserve
unfoldable pub welfare_for : Parts → List Row → Dispatch → Fraction
welfare_for m g x = total (welfare_terms_for m g x)

-- of all rows
abbrev pub welfare_terms : Parts → Dispatch → List Term
welfare_terms m x = welfare_terms_for m (rows m) x

abbrev pub welfare : Parts → Dispatch → Fraction
welfare m x = welfare_for m (rows m) x

-- feasible for these rows and rooms, and of the greatest welfare of all dispatches that are
pub record BestFor (m : Parts) (t : Taken) (x : Dispatch) : Type 0 where
  pub feasible : FeasibleFor m t x
  pub best : (y : Dispatch) → FeasibleFor m t y → welfare_for m t.limits y ≤ℚ welfare_for m t.limits x

-- ---- duals
abbrev pub same_id : RowId → RowId → Bool
same_id a b = (a.branch == b.branch) && (a.outage == b.outage) && (a.unit == b.unit)

-- the prices of a row by its name, which are 0 where it is not named
abbrev pub up_in : List (Dual Fraction) → RowId → Fraction
up_in [] id = zero
up_in (d ∷ ds) id = if same_id d.row id then d.up else up_in ds id

abbrev pub down_in : List (Dual Fraction) → RowId → Fraction
down_in [] id = zero
down_in (d ∷ ds) id = if same_id d.row id then d.down else down_in ds id

abbrev pub up_of : Parts → Duals Fraction → Row → Fraction
up_of m d r = up_in d.limits (row_id m r)

abbrev pub down_of : Parts → Duals Fraction → Row → Fraction
down_of m d r = down_in d.limits (row_id m r)

-- what a MW on the row's flow costs
abbrev pub net_shadow_price : Parts → Duals Fraction → Row → Fraction
net_shadow_price m d r = up_of m d r -ℚ down_of m d r

abbrev pub names_row : List (Dual Fraction) → RowId → Bool
names_row [] id = false
names_row (d ∷ ds) id = same_id d.row id || names_row ds id

-- the rows that duals name, in the order of the market's rows
abbrev pub named_rows : Parts → Duals Fraction → List Row
named_rows m d = filter (λ r. names_row d.limits (row_id m r)) (rows m)

-- the price of a unit's room by its gen row, which is 0 where it is not named
abbrev pub room_price_in : List (RoomDual Fraction) → ℕ → Fraction
room_price_in [] row = zero
room_price_in (d ∷ ds) row = if d.unit == row then d.price else room_price_in ds row

-- that of a unit that offers reserve, and 0 of others
abbrev pub room_price : Parts → Duals Fraction → ℕ → Fraction
room_price m d u = if offers_reserve m u then room_price_in d.rooms (unit_at m u).row else zero

abbrev pub names_room : List (RoomDual Fraction) → ℕ → Bool
names_room [] row = false
names_room (d ∷ ds) row = (d.unit == row) || names_room ds row

-- the units that duals name, in their order
abbrev pub named_rooms : Parts → Duals Fraction → List ℕ
named_rooms m d = filter (λ u. names_room d.rooms (unit_at m u).row) (reserve_units m)

-- one of the two prices of a limit is above 0, and the other is 0
pub record IsOneSided (d : Dual Fraction) : Type 0 where
  pub up : zero ≤ℚ d.up
  pub down : zero ≤ℚ d.down
  pub one : ((zero <ℚ d.up) × (d.down ≡ zero)) ⊎ ((d.up ≡ zero) × (zero <ℚ d.down))

-- The duals of an answer name rows of the market in its order, none twice, each with one price, and units that offer reserve likewise, each
-- with a price above 0. Where the market has no reserve, its price is 0.
pub record ProperDuals (m : Parts) (d : Duals Fraction) : Type 0 where
  pub named : map (λ e. e.row) d.limits ≡ map (row_id m) (named_rows m d)
  pub one_sided : All IsOneSided d.limits
  pub rooms_named : map (λ e. e.unit) d.rooms ≡ map (λ u. (unit_at m u).row) (named_rooms m d)
  pub rooms_priced : All (λ (e : RoomDual Fraction). zero <ℚ e.price) d.rooms
  pub energy_alone : m.reserve.listed ≡ false → d.reserve ≡ zero

-- ---- prices
-- what the limits take from the price of a MW, row by row, where so much of it counts for the flow of a row
abbrev pub congestion_terms_by : Parts → Duals Fraction → (Row → Fraction) → List Term
congestion_terms_by m d factor = map (λ r. Product (neg_ℚ (net_shadow_price m d r)) (factor r)) (rows m)

unfoldable pub congestion_by : Parts → Duals Fraction → (Row → Fraction) → Fraction
congestion_by m d factor = total (congestion_terms_by m d factor)

-- the price of energy, and what congestion adds to it
unfoldable pub price_by : Parts → Duals Fraction → (Row → Fraction) → Fraction
price_by m d factor = d.energy +ℚ congestion_by m d factor

-- at a bus, by its factors
abbrev pub congestion_terms : Parts → Duals Fraction → ℕ → List Term
congestion_terms m d i = congestion_terms_by m d (λ r. row_factor m r i)

abbrev pub congestion : Parts → Duals Fraction → ℕ → Fraction
congestion m d i = congestion_by m d (λ r. row_factor m r i)

abbrev pub bus_price : Parts → Duals Fraction → ℕ → Fraction
bus_price m d i = price_by m d (λ r. row_factor m r i)

-- prices by bus that are those of duals
abbrev pub ArePricesOf : Parts → Duals Fraction → (ℕ → Fraction) → Type 0
ArePricesOf m d price = (i : ℕ) → i < length m.buses → price i ≡ bus_price m d i

-- its two parts
abbrev pub price_terms : Parts → Duals Fraction → ℕ → List Term
price_terms m d i = two_terms d.energy (congestion m d i)

-- the own price of a unit, where buses have prices: that of its bus, less what the rows after its loss take, each by its pickup factor
abbrev pub own_terms : Parts → Duals Fraction → (ℕ → Fraction) → ℕ → List Term
own_terms m d price u =
    Plain (price (unit_at m u).bus)
    ∷ map (λ r. Product (neg_ℚ (net_shadow_price m d r)) (row_pickup m r.line r.cause)) (filter (λ r. loses_unit m u r.cause) (rows m))

abbrev pub own_price : Parts → Duals Fraction → (ℕ → Fraction) → ℕ → Fraction
own_price m d price u = total (own_terms m d price u)

-- at the bus prices of duals
unfoldable pub unit_price : Parts → Duals Fraction → ℕ → Fraction
unit_price m d u = own_price m d (bus_price m d) u

-- ---- what a MW of a unit is worth
-- of its energy: its own price, less what that takes of its room
abbrev pub worth_terms : Parts → Duals Fraction → ℕ → List Term
worth_terms m d u = two_terms (unit_price m d u) (neg_ℚ (room_price m d u))

abbrev pub energy_worth : Parts → Duals Fraction → ℕ → Fraction
energy_worth m d u = unit_price m d u -ℚ room_price m d u

-- of its reserve: the price of reserve, less the same
abbrev pub reserve_worth_terms : Parts → Duals Fraction → ℕ → List Term
reserve_worth_terms m d u = two_terms d.reserve (neg_ℚ (room_price m d u))

abbrev pub reserve_worth : Parts → Duals Fraction → ℕ → Fraction
reserve_worth m d u = d.reserve -ℚ room_price m d u

-- accepting more of a block of this side and price gains, where a MW of its unit is worth `worth`
abbrev pub Gains : Side → Fraction → Fraction → Type 0
Gains Sell price worth = price <ℚ worth
Gains Buy price worth = worth <ℚ price

-- accepting any of it loses
abbrev pub Loses : Side → Fraction → Fraction → Type 0
Loses Sell price worth = worth <ℚ price
Loses Buy price worth = price <ℚ worth

-- what gains is accepted whole, and what loses is not accepted
pub record BlockSupported (m : Parts) (x : Dispatch) (d : Duals Fraction) (j : ℕ) : Type 0 where
  pub full : Gains (block_at m j).side (price m j) (energy_worth m d (block_at m j).unit) → accepted x j ≡ quantity m j
  pub empty : Loses (block_at m j).side (price m j) (energy_worth m d (block_at m j).unit) → accepted x j ≡ zero

-- and so for an offer of reserve
pub record OfferSupported (m : Parts) (x : Dispatch) (d : Duals Fraction) (n : ℕ) : Type 0 where
  pub full : offer_price m n <ℚ reserve_worth m d (offer_at m n).unit → reserved x n ≡ reserve_quantity m n
  pub empty : reserve_worth m d (offer_at m n).unit <ℚ offer_price m n → reserved x n ≡ zero

-- the price of reserve is at least 0, and above 0 only where no more is accepted than is needed
pub record NeedSupported (m : Parts) (x : Dispatch) (d : Duals Fraction) : Type 0 where
  pub sign : zero ≤ℚ d.reserve
  pub met : zero <ℚ d.reserve → reserve m x ≡ reserve_need m

-- the price of a unit's room is at least 0, and above 0 only where the room is used up
pub record RoomSupported (m : Parts) (x : Dispatch) (d : Duals Fraction) (u : ℕ) : Type 0 where
  pub sign : zero ≤ℚ room_price m d u
  pub used_up : zero <ℚ room_price m d u → room_used m x u ≡ room m u

-- A price of one side of a limit, where the flow towards that side is f: at least 0, and above 0 only where the flow reaches the limit; at
-- least the penalty where the flow exceeds the limit, and above it only where the flow has used up the excess.
pub record SideSupported (m : Parts) (r : Row) (price f : Fraction) : Type 0 where
  pub sign : zero ≤ℚ price
  pub reached : zero <ℚ price → limit m r ≤ℚ f
  pub exceeded : limit m r <ℚ f → penalty m r ≤ℚ price
  pub used_up : penalty m r <ℚ price → f ≡ most_flow m r

-- the prices of the two sides of a limit
pub record RowSupported (m : Parts) (x : Dispatch) (d : Duals Fraction) (r : Row) : Type 0 where
  pub up : SideSupported m r (up_of m d r) (flow m x r)
  pub down : SideSupported m r (down_of m d r) (neg_ℚ (flow m x r))

-- Duals for which a dispatch is best, seen block by block and row by row, and with reserve offer by offer and room by room. Of rows those
-- that count are seen.
pub record SupportsOver (m : Parts) (Counts : Row → Type 0) (x : Dispatch) (d : Duals Fraction) : Type 0 where
  pub blocks : (j : ℕ) → j < length m.blocks → BlockSupported m x d j
  pub rows : (r : Row) → Counts r → RowSupported m x d r
  pub offers : (n : ℕ) → n < length m.reserve.offers → OfferSupported m x d n
  pub need : NeedSupported m x d
  pub rooms : (u : ℕ) → Contains (reserve_units m) u → RoomSupported m x d u

-- all rows of the market
abbrev pub Supports : Parts → Dispatch → Duals Fraction → Type 0
Supports m x d = SupportsOver m (λ r. Contains (rows m) r) x d

-- the prices at buses are those of duals that support the dispatch, which is feasible
pub record IsSupportedAt (m : Parts) (x : Dispatch) (price : ℕ → Fraction) (d : Duals Fraction) : Type 0 where
  pub prices : ArePricesOf m d price
  pub feasible : Feasible m x
  pub supported : Supports m x d
