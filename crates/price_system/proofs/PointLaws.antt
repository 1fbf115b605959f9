-- The points of the system of prices are the duals that support the dispatch.
use Rattle.std.specs.Prelude.{◌≡◌, ℕ, ◌<◌, ◌&&◌, Bool, true, false, length, if◌then◌else◌, Contains, refl}
use Rattle.std.proofs.Common.{ap, sym, ◌∙◌, subst, subst₂}
use Rattle.fraction_theory.specs.Fraction.{Fraction, neg_ℚ}
use Rattle.fraction_theory.specs.Order.{◌<ℚ◌, ◌≤ℚ◌}
use Rattle.fraction_theory.proofs.OrderLaws.{<ℚ-not-≤ℚ, opposite_most, ≤ℚ_of_same}
use Rattle.linear_system.specs.Systems.{InBounds, MeetsRows, System, activity}
use Rattle.market_model.specs.declared.answered.Duals.{Duals}
use Rattle.market_model.specs.declared.limits.Row.{Row}
use Rattle.market_model.specs.declared.participants.Parts.{Parts}
use Rattle.market_model.specs.declared.participants.Side.TheVariants.{Sell}
use Rattle.market_model.specs.Dispatch.{Dispatch, accepted, block_at, offer_at, quantity, reserve_quantity, reserved, zero}
use Rattle.market_model.specs.LimitRows.{flow, rows}
use Rattle.market_model.specs.Market.{IsMarket}
use Rattle.market_model.specs.Optimality.{BlockSupported, NeedSupported, OfferSupported, ProperDuals, RoomSupported, RowSupported, Supports, down_of, energy_worth, price, reserve_worth, room_price, up_of}
use Rattle.market_model.specs.Reserves.{offer_price, reserve, reserve_need, reserve_units, room, room_used}
use Rattle.market_model.proofs.RowMembers.{Contains-from_map, Contains-map}
use Rattle.one_price.specs.FirstPrices.{sum_of_prices}
use Rattle.limit_screen.specs.Reaching.{are_same}
use Rattle.price_system.specs.PriceSystem.{Caps, KeepsCaps, high, low, least_price, most_price, most_reserve_price, most_room_price, most_worth, name, point_of, price_system, value_of, variables, worths}
use Rattle.price_system.specs.declared.variables.Variable.{Variable}
use Rattle.price_system.specs.declared.variables.Variable.TheVariants.{Energy, Reserve, Up, Down, Room, Sum, Block, Offer}
use Rattle.price_system.proofs.BoundLemmas.{gains_in, loses_in, side_in, side_least, side_most, used_in, used_most, worth_greatest, worth_least}
use Rattle.price_system.proofs.CapLemmas.{down_most, listed_most, prices_least, reserve_within, up_most, worth_within}
use Rattle.price_system.proofs.CapLemmas.{reserve_most as reserve_in}
use Rattle.price_system.proofs.NameLemmas.{IsVariable, block_listed, by_worth, listed, offer_listed, sum_listed, variable_at, variable_is}
use Rattle.price_system.proofs.SizeLemmas.{opposite, opposite_back, opposite_nil}
use Rattle.price_system.proofs.WorthLemmas.{Agrees, activity-block, activity-offer, activity-sum, apart, high-at, low-at}

module _ (m : Parts) (x : Dispatch) (c : Caps) (market : IsMarket m) where
  abbrev s : System
  s = price_system m x c

  pub variable_in : (v : Variable) → IsVariable m v → Contains s.variables (name m v)
  unfolding price_system
  variable_in v is = Contains-map (name m) (variables m) v (listed m v is)

  row_in : (v : Variable) → Contains (worths m) v → Contains s.rows (name m v)
  unfolding price_system
  row_in v k = Contains-map (name m) (worths m) v k

  pub by_variable : (P : ℕ → Type 0) → ((v : Variable) → IsVariable m v → P (name m v)) → (w : ℕ) → Contains s.variables w → P w
  unfolding price_system
  by_variable P each w k = let l = Contains-from_map (name m) (variables m) w k in subst P l.2 (each l.0 (variable_is m l.0 l.1))

  pub by_row : (P : ℕ → Type 0) → P (name m Sum) → ((j : ℕ) → j < length m.blocks → P (name m (Block j))) → ((n : ℕ) → n < length m.reserve.offers → P (name m (Offer n)))
      → (w : ℕ) → Contains s.rows w → P w
  unfolding price_system
  by_row P sum block offer w k = let l = Contains-from_map (name m) (worths m) w k in subst P l.2 (by_worth m (λ v. P (name m v)) sum block offer l.0 l.1)

  -- ---- duals of a point that meets the rows and is within the bounds
  module _ (v : ℕ → Fraction) (d : Duals Fraction) (agrees : Agrees m v d) (meets : MeetsRows s v) (bounds : InBounds s v) where
    pub least : (w : Variable) (is : IsVariable m w) → low m x c w ≤ℚ v (name m w)
    least w is = subst (λ t. t ≤ℚ v (name m w)) (low-at m x c market w is) (bounds.low (name m w) (variable_in w is))

    pub greatest : (w : Variable) (is : IsVariable m w) → v (name m w) ≤ℚ high m x c w
    greatest w is = subst (λ t. v (name m w) ≤ℚ t) (high-at m x c market w is) (bounds.high (name m w) (variable_in w is))

    -- the bounds of a price of which a column is the opposite
    pub price_most : (w : Variable) (is : IsVariable m w) (p most : Fraction) → v (name m w) ≡ neg_ℚ p → low m x c w ≡ neg_ℚ most → p ≤ℚ most
    price_most w is p most e k = opposite_back p most (subst₂ ◌≤ℚ◌ k e (least w is))

    price_least : (w : Variable) (is : IsVariable m w) (p bound : Fraction) → v (name m w) ≡ neg_ℚ p → high m x c w ≡ neg_ℚ bound → bound ≤ℚ p
    price_least w is p bound e k = opposite_back bound p (subst₂ ◌≤ℚ◌ e k (greatest w is))

    pub sum_worth : v (name m Sum) ≡ neg_ℚ (sum_of_prices m d)
    sum_worth = meets.row (name m Sum) (row_in Sum (sum_listed m)) ∙ activity-sum m x c market v d agrees

    pub block_worth : (j : ℕ) → j < length m.blocks → v (name m (Block j)) ≡ energy_worth m d (block_at m j).unit
    block_worth j h = meets.row (name m (Block j)) (row_in (Block j) (block_listed m j h)) ∙ activity-block m x c market v d agrees j h

    pub offer_worth : (n : ℕ) → n < length m.reserve.offers → v (name m (Offer n)) ≡ reserve_worth m d (offer_at m n).unit
    offer_worth n h = meets.row (name m (Offer n)) (row_in (Offer n) (offer_listed m n h)) ∙ activity-offer m x c market v d agrees n h

    block_supported : (j : ℕ) → j < length m.blocks → BlockSupported m x d j
    block_supported j h =
        let u : ℕ = (block_at m j).unit in
        let w : Fraction = energy_worth m d u in
        let under = subst (λ t. low m x c (Block j) ≤ℚ t) (block_worth j h) (least (Block j) h) in
        let over = subst (λ t. t ≤ℚ high m x c (Block j)) (block_worth j h) (greatest (Block j) h) in
        record {
          full = gains_in (price m j) (most_worth c) w (accepted x j) zero (quantity m j) (block_at m j).side under over;
          empty = loses_in (price m j) (most_worth c) w (accepted x j) zero (quantity m j) (block_at m j).side under over;
        }

    offer_supported : (n : ℕ) → n < length m.reserve.offers → OfferSupported m x d n
    offer_supported n h =
        let w : Fraction = reserve_worth m d (offer_at m n).unit in
        let under = subst (λ t. low m x c (Offer n) ≤ℚ t) (offer_worth n h) (least (Offer n) h) in
        let over = subst (λ t. t ≤ℚ high m x c (Offer n)) (offer_worth n h) (greatest (Offer n) h) in
        record {
          full = gains_in (offer_price m n) c.most w (reserved x n) zero (reserve_quantity m n) Sell under over;
          empty = loses_in (offer_price m n) c.most w (reserved x n) zero (reserve_quantity m n) Sell under over;
        }

    row_supported : (r : Row) → Contains (rows m) r → RowSupported m x d r
    row_supported r k = record {
      up = side_in m c r (up_of m d r) (flow m x r) market
          (price_least (Up r) k (up_of m d r) (least_price m r (flow m x r)) (agrees.up r k) refl)
          (price_most (Up r) k (up_of m d r) (most_price m c r (flow m x r)) (agrees.up r k) refl);
      down = side_in m c r (down_of m d r) (neg_ℚ (flow m x r)) market
          (price_least (Down r) k (down_of m d r) (least_price m r (neg_ℚ (flow m x r))) (agrees.down r k) refl)
          (price_most (Down r) k (down_of m d r) (most_price m c r (neg_ℚ (flow m x r))) (agrees.down r k) refl);
    }

    room_supported : (u : ℕ) → Contains (reserve_units m) u → RoomSupported m x d u
    room_supported u k = record {
      sign = price_least (Room u) k (room_price m d u) zero (agrees.room u k) (sym opposite_nil);
      used_up = used_in c.most (room_price m d u) (room_used m x u) (room m u) (price_most (Room u) k (room_price m d u) (most_room_price m x c u) (agrees.room u k) refl);
    }

    need_supported : NeedSupported m x d
    need_supported = record {
      sign = price_least Reserve tt d.reserve zero agrees.reserve (sym opposite_nil);
      met = by m.reserve.listed (price_most Reserve tt d.reserve (most_reserve_price m x c) agrees.reserve refl);
    }
      where
        by : (b : Bool) → d.reserve ≤ℚ (if b && are_same (reserve m x) (reserve_need m) then c.most else zero) → zero <ℚ d.reserve → reserve m x ≡ reserve_need m
        by true most above = used_in c.most d.reserve (reserve m x) (reserve_need m) most above
        by false most above = absurd (<ℚ-not-≤ℚ zero d.reserve above most)

    pub supported : Supports m x d
    supported = record { blocks = block_supported; rows = row_supported; offers = offer_supported; need = need_supported; rooms = room_supported }

  -- ---- the point of duals
  module _ (d : Duals Fraction) where
    pub value_at : (v : Variable) → IsVariable m v → point_of m d (name m v) ≡ value_of m d v
    value_at v is = ap (value_of m d) (variable_at m (apart m x c market) v is)

    pub point_agrees : Agrees m (point_of m d) d
    point_agrees = record { energy = refl; reserve = refl; up = λ r k. value_at (Up r) k; down = λ r k. value_at (Down r) k; room = λ u k. value_at (Room u) k }

    pub point_meets : MeetsRows s (point_of m d)
    point_meets = record {
      row = by_row (λ w. point_of m d w ≡ activity s (point_of m d) w)
          (value_at Sum tt ∙ sym (activity-sum m x c market (point_of m d) d point_agrees))
          (λ j h. value_at (Block j) h ∙ sym (activity-block m x c market (point_of m d) d point_agrees j h))
          (λ n h. value_at (Offer n) h ∙ sym (activity-offer m x c market (point_of m d) d point_agrees n h));
    }

    module _ (proper : ProperDuals m d) (holds : Supports m x d) (keeps : KeepsCaps m x c d) where
      reserve_most : d.reserve ≤ℚ most_reserve_price m x c
      reserve_most = by m.reserve.listed refl
        where
          by : (b : Bool) → m.reserve.listed ≡ b → d.reserve ≤ℚ (if b && are_same (reserve m x) (reserve_need m) then c.most else zero)
          by true e = used_most c.most d.reserve (reserve m x) (reserve_need m) holds.need.met (reserve_in m x d market holds c.most keeps.sum)
          by false e = ≤ℚ_of_same d.reserve zero (proper.energy_alone e)

      up_cap : (r : Row) → Contains (rows m) r → up_of m d r ≤ℚ c.most
      up_cap r k = up_most m x d market holds c.most keeps.sum r k

      down_cap : (r : Row) → Contains (rows m) r → down_of m d r ≤ℚ c.most
      down_cap r k = down_most m x d market holds c.most keeps.sum r k

      nil_most : (p : Fraction) → zero ≤ℚ p → neg_ℚ p ≤ℚ zero
      nil_most p h = subst (λ t. neg_ℚ p ≤ℚ t) opposite_nil (opposite zero p h)

      under : (v : Variable) → IsVariable m v → low m x c v ≤ℚ value_of m d v
      under Energy is = opposite d.energy c.range keeps.energy.below
      under Reserve is = opposite d.reserve (most_reserve_price m x c) reserve_most
      under (Up r) is = let row = holds.rows r is in
          opposite (up_of m d r) (most_price m c r (flow m x r)) (side_most m c r (up_of m d r) (flow m x r) row.up (up_cap r is))
      under (Down r) is = let row = holds.rows r is in
          opposite (down_of m d r) (most_price m c r (neg_ℚ (flow m x r))) (side_most m c r (down_of m d r) (neg_ℚ (flow m x r)) row.down (down_cap r is))
      under (Room u) is = let rooms = holds.rooms u is in
          opposite (room_price m d u) (most_room_price m x c u) (used_most c.most (room_price m d u) (room_used m x u) (room m u) rooms.used_up (listed_most m x d market holds c.most keeps.sum u is))
      under Sum is = opposite (sum_of_prices m d) c.most keeps.sum
      under (Block j) is =
          let u : ℕ = (block_at m j).unit in
          let block = holds.blocks j is in
          let within = worth_within m x c d market holds keeps j is in
          worth_least (price m j) (most_worth c) (energy_worth m d u) (accepted x j) zero (quantity m j) (block_at m j).side block.full block.empty within.above
      under (Offer n) is =
          let u : ℕ = (offer_at m n).unit in
          let offer = holds.offers n is in
          let within = reserve_within m x d market holds c.most keeps.sum u in
          worth_least (offer_price m n) c.most (reserve_worth m d u) (reserved x n) zero (reserve_quantity m n) Sell offer.full offer.empty within.above

      over : (v : Variable) → IsVariable m v → value_of m d v ≤ℚ high m x c v
      over Energy is = opposite_most c.range d.energy keeps.energy.above
      over Reserve is = nil_most d.reserve holds.need.sign
      over (Up r) is = let row = holds.rows r is in
          opposite (least_price m r (flow m x r)) (up_of m d r) (side_least m c r (up_of m d r) (flow m x r) row.up (up_cap r is))
      over (Down r) is = let row = holds.rows r is in
          opposite (least_price m r (neg_ℚ (flow m x r))) (down_of m d r) (side_least m c r (down_of m d r) (neg_ℚ (flow m x r)) row.down (down_cap r is))
      over (Room u) is = let rooms = holds.rooms u is in nil_most (room_price m d u) rooms.sign
      over Sum is = nil_most (sum_of_prices m d) (prices_least m x d market holds)
      over (Block j) is =
          let u : ℕ = (block_at m j).unit in
          let block = holds.blocks j is in
          let within = worth_within m x c d market holds keeps j is in
          worth_greatest (price m j) (most_worth c) (energy_worth m d u) (accepted x j) zero (quantity m j) (block_at m j).side block.full block.empty within.below
      over (Offer n) is =
          let u : ℕ = (offer_at m n).unit in
          let offer = holds.offers n is in
          let within = reserve_within m x d market holds c.most keeps.sum u in
          worth_greatest (offer_price m n) c.most (reserve_worth m d u) (reserved x n) zero (reserve_quantity m n) Sell offer.full offer.empty within.below

      pub point_bounds : InBounds s (point_of m d)
      point_bounds = record {
        low = by_variable (λ w. s.low w ≤ℚ point_of m d w) (λ v is. subst₂ ◌≤ℚ◌ (sym (low-at m x c market v is)) (sym (value_at v is)) (under v is));
        high = by_variable (λ w. point_of m d w ≤ℚ s.high w) (λ v is. subst₂ ◌≤ℚ◌ (sym (value_at v is)) (sym (high-at m x c market v is)) (over v is));
      }
