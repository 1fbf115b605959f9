-- Duals that show that no dispatch is feasible.
-- Farkas: relations that no point meets have a combination that no point can meet. Here it bounds what a price of energy makes of
-- the balance, and prices of limits of what flows leave of the most that they may be: at a feasible dispatch the first is 0 and the others
-- are at least 0, so a bound below 0 leaves none. With reserve it bounds too what its price makes of what is accepted beyond the need, and
-- prices of rooms of what is left of these.
use Rattle.std.specs.Prelude.{◌≡◌, ℕ, List, [], ◌∷◌, ◌++◌, length, map, Contains, if◌then◌else◌}
use Rattle.std.specs.List.{flat_map}
use Rattle.fraction_theory.specs.Fraction.{Fraction, neg_ℚ, ◌+ℚ◌, ◌-ℚ◌}
use Rattle.fraction_theory.specs.Order.{◌<ℚ◌, ◌≤ℚ◌}
use Rattle.fraction_theory.specs.Signs.{part_above}
use Rattle.fraction_theory.specs.Sums.{Term, Product, total}
use Rattle.market_model.specs.declared.participants.Parts.{Parts}
use Rattle.market_model.specs.declared.answered.Duals.{Duals}
use Rattle.market_model.specs.declared.answered.Farkas.{Farkas}
use Rattle.market_model.specs.Dispatch.{zero, places, block_at, offer_at, signed_by_side, quantity, reserve_quantity, balance, empty}
use Rattle.market_model.specs.Optimality.{energy_worth, reserve_worth, room_price, up_of, down_of, ProperDuals}
use Rattle.market_model.specs.declared.limits.Row.{Row}
use Rattle.market_model.specs.LimitRows.{rows, flow, most_flow}
use Rattle.market_model.specs.Reserves.{offer_places, reserve_need, reserve_units, room}

-- what a MW of a block makes at duals: the worth of its unit's energy for a sell, the opposite for a buy
abbrev pub block_weight : Parts → Duals Fraction → ℕ → Fraction
block_weight m d j = signed_by_side (block_at m j).side (energy_worth m d (block_at m j).unit)

-- what a MW of an offer of reserve makes: the worth of its unit's reserve
abbrev pub offer_weight : Parts → Duals Fraction → ℕ → Fraction
offer_weight m d n = reserve_worth m d (offer_at m n).unit

-- what the flow of a row, where nothing is accepted, leaves of the most that it may be, at the prices of its two sides
abbrev pub limit_terms : Parts → Duals Fraction → Row → List Term
limit_terms m d r = Product (up_of m d r) (most_flow m r -ℚ flow m (empty m) r) ∷ Product (down_of m d r) (most_flow m r +ℚ flow m (empty m) r) ∷ []

-- what nothing accepted makes of the balance at the price of energy, and of what its flows leave at the prices of rows
abbrev pub energy_left_terms : Parts → Duals Fraction → List Term
energy_left_terms m d = Product d.energy (balance m (empty m)) ∷ flat_map (limit_terms m d) (rows m)

-- the need of a market with reserve, at the price of reserve and counted down
abbrev pub need_terms : Parts → Duals Fraction → List Term
need_terms m d = if m.reserve.listed then Product d.reserve (neg_ℚ (reserve_need m)) ∷ [] else []

-- the need, and whole rooms at their prices
abbrev pub reserve_left_terms : Parts → Duals Fraction → List Term
reserve_left_terms m d = need_terms m d ++ map (λ u. Product (room_price m d u) (room m u)) (reserve_units m)

-- what nothing accepted makes of energy and of reserve
abbrev pub nothing_terms : Parts → Duals Fraction → List Term
nothing_terms m d = energy_left_terms m d ++ reserve_left_terms m d

-- the most that each block adds to it, and each offer of reserve
abbrev pub block_most : Parts → Duals Fraction → ℕ → Term
block_most m d j = Product (part_above (block_weight m d j)) (quantity m j)

abbrev pub offer_most : Parts → Duals Fraction → ℕ → Term
offer_most m d n = Product (part_above (offer_weight m d n)) (reserve_quantity m n)

abbrev pub farkas_terms : Parts → Duals Fraction → List Term
farkas_terms m d = nothing_terms m d ++ map (block_most m d) (places (length m.blocks)) ++ map (offer_most m d) (offer_places m)

-- the most that any dispatch within the bounds of blocks and offers makes of the balance at the price of energy, of what flows leave of the
-- most that they may be at the prices of rows, of reserve beyond the need at its price, and of what is left of rooms at theirs
unfoldable pub farkas_bound : Parts → Duals Fraction → Fraction
farkas_bound m d = total (farkas_terms m d)

-- that most is below 0, where at a feasible dispatch the balance makes 0, no flow is beyond its most, the need is met and no room is passed
pub record ShowsInfeasible (m : Parts) (d : Duals Fraction) : Type 0 where
  pub up_signs : (r : Row) → Contains (rows m) r → zero ≤ℚ up_of m d r
  pub down_signs : (r : Row) → Contains (rows m) r → zero ≤ℚ down_of m d r
  pub need_sign : zero ≤ℚ d.reserve
  pub room_signs : (u : ℕ) → Contains (reserve_units m) u → zero ≤ℚ room_price m d u
  pub below : farkas_bound m d <ℚ zero

-- duals that show it, with their bound
pub record IsFarkas (m : Parts) (f : Farkas Fraction) : Type 0 where
  pub shows : ShowsInfeasible m f.duals
  pub proper : ProperDuals m f.duals
  pub bound : f.bound ≡ farkas_bound m f.duals
