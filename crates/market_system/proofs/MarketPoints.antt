-- The points of a market's system over limit rows and rooms are the dispatches that are feasible for these.
use Rattle.std.specs.Prelude.{◌≡◌, ℕ, ◌<◌, ◌==◌, pos, Bool, true, false, List, [], ◌∷◌, ◌++◌, length, map, filter, Contains, refl}
use Rattle.std.proofs.Common.{suc, arith, ap, ap₂, sym, ◌∙◌, subst, subst₂, inl, inr, get_or}
use Rattle.std.proofs.lemmas.Bool.Decides.{eqb_tells}
use Rattle.std.proofs.lemmas.List.{get_or-map}
use Rattle.std.proofs.lemmas.List.FromFn.{length-range_with_len, get_or-range_with_len}
use Rattle.fraction_theory.specs.Fraction.{Fraction, whole, neg_ℚ, ◌+ℚ◌, ◌-ℚ◌, ◌*ℚ◌}
use Rattle.fraction_theory.specs.Order.{◌≤ℚ◌}
use Rattle.fraction_theory.specs.Signs.{part_above}
use Rattle.fraction_theory.specs.Sums.{sum_by}
use Rattle.fraction_theory.proofs.Ring.{by_ring, by_ring1, at, pnil, pone, pneg, ◌⊕◌, ◌⊗◌}
use Rattle.fraction_theory.proofs.FieldLaws.{ring_ℚ}
use Rattle.fraction_theory.proofs.OrderLaws.{≤ℚ_of_same, ≤ℚ_antisym, +ℚ-≤ℚ, by_le1, NonNeg-one, NonNeg_from}
use Rattle.fraction_theory.proofs.SignLaws.{part_least}
use Rattle.fraction_theory.proofs.SumLaws.{sum_by-nil, sum_by-plus, sum_by-same, sum_by-times, sum_by-≤, total-append, total-Product}
use Rattle.fraction_theory.proofs.ListSums.{kept, Contains-from_filter, sum_by-filter, sum_by-members}
use Rattle.linear_system.specs.Systems.{System, IsSystem, MeetsRows, InBounds, objective}
use Rattle.linear_system.proofs.Multipliers.{by_columns, by_columns-column, by_columns-meets}
use Rattle.market_model.specs.declared.participants.Side.{Side}
use Rattle.market_model.specs.declared.participants.Side.TheVariants.{Sell, Buy}
use Rattle.market_model.specs.declared.participants.Parts.{Parts}
use Rattle.market_model.specs.Dispatch.{Dispatch, IsDispatch, zero as nil, places, block_at, block_bus, blocks_of, offer_at, unit_at, signed_by_side, accepted, quantity, raised_by, reserved, reserve_quantity, injection, output, balance, empty}
use Rattle.market_model.specs.declared.limits.Cause.{Cause}
use Rattle.market_model.specs.declared.limits.Cause.TheVariants.{Base, Branch, UnitOutage}
use Rattle.market_model.specs.declared.limits.Row.{Row}
use Rattle.market_model.specs.LimitRows.{rows, limit, is_soft, loses_unit, lost_output, lost_unit, penalty, picked_up, pickup_factor, most_excess, most_flow, row_factor, row_offset, row_pickup, unit_factor, flow}
use Rattle.market_model.specs.Market.{IsMarket}
use Rattle.market_model.specs.Optimality.{FeasibleFor, Taken, block_value, block_value_terms, penalty_terms, welfare_for}
use Rattle.market_model.specs.Reserves.{offer_places, reserve, reserve_cost_terms, reserve_need, offer_price, reserve_units, room, room_used}
use Rattle.market_model.specs.Overrun.{excess, excess_by, Within}
use Rattle.market_model.proofs.EnergyAlone.{no_need, nothing_reserved}
use Rattle.market_model.proofs.Excesses.{penalty_least}
use Rattle.market_model.proofs.MarketSums.{block_bus-in, fixed_part, injection-by_empty, output-by_parts, balance-by_empty, raised_by-empty}
use Rattle.market_model.proofs.PlaceSums.{gather_times, places_all}
use Rattle.market_model.proofs.RoomLemmas.{listed-inside}
use Rattle.market_model.proofs.RowLaws.{along, law_of_the_flows, unit_factor-parts}
use Rattle.market_model.proofs.RowMembers.{Contains-from_places}
use Rattle.market_model.proofs.ReserveSums.{reserve-by_offers}
use Rattle.market_system.specs.declared.variables.Variable.{Variable}
use Rattle.market_system.specs.declared.variables.Variable.TheVariants.{Block, Balance, Limit, Over, Under, Offer, Need, Room}
use Rattle.market_system.specs.MarketSystem.{balance_name, row_name, over_name, under_name, offer_name, need_name, room_name, taken_in_order, at_unit, block_sign, residual_demand, block_coefficient, least_added, most_added, most_reserve, name, variable_of, system_of, point_dispatch, IsVariableOf}
use Rattle.market_system.specs.SolvedLaws.{AreRows, AreTaken, PointsAreDispatches}
use Rattle.market_system.proofs.RowSums.{sum_by-in_order}
use Rattle.market_system.proofs.SoftRows.{excess-parts, kept_between, kept_where, kept_within, most_excess_least, part_most, spread_over, spread_under, spread_within}
use Rattle.market_system.proofs.RoomBounds.{reserve-at_most_kept, room_used-by_columns, room_used-at_least}
use Rattle.market_system.proofs.RowOrder.{RowsApart, AreInOrder, in_order-in, in_order-from, rooms_in_order-in, rooms_in_order-from}
use Rattle.market_system.proofs.SystemLaws.{signed-times}
use Rattle.market_system.proofs.VariableLaws.{row_listed, column_listed, excess_listed, balance_in as balance_among, limit_in, need_in as need_among, room_in as room_among, by_variable, variable_in, variable_at, soft, over_in, under_in, column_in, offer_in as offer_column, sum-variables, taken-in_order, is_system_over, coefficient-at, price-at, low-at, high-at, activity-balance, activity-limit, activity-need, activity-room, objective-at}

-- ---- what blocks add to the flow of a row
-- an output by that of nothing accepted
output-by_empty : (m : Parts) (x : Dispatch) (u : ℕ) → output m x u ≡ output m (empty m) u +ℚ sum_by (raised_by m x) (blocks_of m u)
output-by_empty m x u =
    let raised : Fraction = sum_by (raised_by m x) (blocks_of m u) in
    output-by_parts m x u
    ∙ by_ring ring_ℚ (fixed_part m u ∷ raised ∷ []) (at 0 ⊕ at 1) ((at 0 ⊕ pnil) ⊕ at 1) refl
    ∙ ap (λ t. (fixed_part m u +ℚ t) +ℚ raised) (sym (sum_by-same (raised_by m (empty m)) (λ j. nil) (blocks_of m u) (raised_by-empty m) ∙ sum_by-nil (blocks_of m u)))
    ∙ ap (λ t. t +ℚ raised) (sym (output-by_parts m (empty m) u))

-- what is picked up of it: of each block of the lost unit what it raises, by the pickup factor
picked_up-by_blocks : (m : Parts) (x : Dispatch) (l : ℕ) (c : Cause) → picked_up m (lost_output m x) (record { line = l; cause = c })
    ≡ picked_up m (lost_output m (empty m)) (record { line = l; cause = c })
    +ℚ sum_by (λ j. kept (loses_unit m (block_at m j).unit c) (row_pickup m l c) *ℚ raised_by m x j) (places (length m.blocks))
picked_up-by_blocks m x l c = by c
  where
    none : nil ≡ nil +ℚ sum_by (λ j. nil *ℚ raised_by m x j) (places (length m.blocks))
    none =
        sym (ring_ℚ.plus_nil nil)
        ∙ ap (λ t. nil +ℚ t)
        (sym (sum_by-same (λ j. nil *ℚ raised_by m x j) (λ j. nil) (places (length m.blocks)) (λ j. by_ring ring_ℚ (raised_by m x j ∷ []) (pnil ⊗ at 0) pnil refl) ∙ sum_by-nil (places (length m.blocks))))

    kept-times : (b : Bool) (f y : Fraction) → f *ℚ kept b y ≡ kept b f *ℚ y
    kept-times true f y = refl
    kept-times false f y = by_ring ring_ℚ (f ∷ y ∷ []) (at 0 ⊗ pnil) (pnil ⊗ at 1) refl

    either_way : (a b : ℕ) → (a == b) ≡ (b == a)
    either_way a b = elim (eqb_tells a b) [
      | inl t ↦ elim (eqb_tells b a) [ inl s ↦ t.0 ∙ sym s.0 | inr s ↦ absurd (s.1 (sym t.1)) ]
      | inr t ↦ elim (eqb_tells b a) [ inl s ↦ absurd (t.1 (sym s.1)) | inr s ↦ t.0 ∙ sym s.0 ]
    ]

    by : (c : Cause) → picked_up m (lost_output m x) (record { line = l; cause = c })
        ≡ picked_up m (lost_output m (empty m)) (record { line = l; cause = c })
        +ℚ sum_by (λ j. kept (loses_unit m (block_at m j).unit c) (row_pickup m l c) *ℚ raised_by m x j) (places (length m.blocks))
    by Base = none
    by (Branch k) = none
    by (UnitOutage k) =
        let u : ℕ = lost_unit m k in
        let f : Fraction = pickup_factor m l k in
        let raised : Fraction = sum_by (raised_by m x) (blocks_of m u) in
        ap (λ t. f *ℚ t +ℚ nil) (output-by_empty m x u)
        ∙ by_ring ring_ℚ (f ∷ output m (empty m) u ∷ raised ∷ []) (at 0 ⊗ (at 1 ⊕ at 2) ⊕ pnil) ((at 0 ⊗ at 1 ⊕ pnil) ⊕ at 0 ⊗ at 2) refl
        ∙ ap (λ t. (f *ℚ output m (empty m) u +ℚ nil) +ℚ t)
        (ap (λ t. f *ℚ t) (sum_by-filter (raised_by m x) (λ j. (block_at m j).unit == u) (places (length m.blocks)))
        ∙ sym (sum_by-times f (λ j. kept ((block_at m j).unit == u) (raised_by m x j)) (places (length m.blocks)))
        ∙ sum_by-same (λ j. f *ℚ kept ((block_at m j).unit == u) (raised_by m x j)) (λ j. kept (u == (block_at m j).unit) f *ℚ raised_by m x j) (places (length m.blocks))
        (λ j. kept-times ((block_at m j).unit == u) f (raised_by m x j) ∙ ap (λ (b : Bool). kept b f *ℚ raised_by m x j) (either_way (block_at m j).unit u)))

turned : (side : Side) (a x : Fraction) → a *ℚ signed_by_side side x ≡ signed_by_side side a *ℚ x
turned Sell a x = refl
turned Buy a x = by_ring ring_ℚ (a ∷ x ∷ []) (at 0 ⊗ pneg (at 1)) (pneg (at 0) ⊗ at 1) refl

-- of each block what it raises, by the factor of its unit
pub flow-by_blocks : (m : Parts) → IsMarket m → (x : Dispatch) (r : Row)
    → flow m x r ≡ flow m (empty m) r +ℚ sum_by (λ j. block_coefficient m r j *ℚ accepted x j) (places (length m.blocks))
flow-by_blocks m market x r =
    let buses : List ℕ = places (length m.buses) in
    let blocks : List ℕ = places (length m.blocks) in
    let a : ℕ → Fraction = row_factor m r in
    let at_bus : ℕ → Fraction = λ i. sum_by (raised_by m x) (filter (λ j. block_bus m j == i) blocks) in
    let start : Fraction = sum_by (λ i. a i *ℚ injection m (empty m) i) buses in
    let taken : ℕ → Fraction = λ j. kept (loses_unit m (block_at m j).unit r.cause) (row_pickup m r.line r.cause) in
    let by_bus : Fraction = sum_by (λ j. a (block_bus m j) *ℚ raised_by m x j) blocks in
    let by_loss : Fraction = sum_by (λ j. taken j *ℚ raised_by m x j) blocks in
    let picked : Fraction = picked_up m (lost_output m (empty m)) r in
    law_of_the_flows m (injection m x) (lost_output m x) r
    ∙ ap₂ (λ (s t : Fraction). (row_offset m r +ℚ s) +ℚ t)
    (sum_by-same (λ i. a i *ℚ injection m x i) (λ i. a i *ℚ injection m (empty m) i +ℚ a i *ℚ at_bus i) buses
    (λ i. ap (λ t. a i *ℚ t) (injection-by_empty m x i) ∙ by_ring ring_ℚ (a i ∷ injection m (empty m) i ∷ at_bus i ∷ []) (at 0 ⊗ (at 1 ⊕ at 2)) (at 0 ⊗ at 1 ⊕ at 0 ⊗ at 2) refl)
    ∙ sum_by-plus (λ i. a i *ℚ injection m (empty m) i) (λ i. a i *ℚ at_bus i) buses
    ∙ ap (λ t. start +ℚ t)
    (gather_times a (raised_by m x) (block_bus m) (length m.buses) blocks (places_all (λ j. block_bus m j < length m.buses) (length m.blocks) (block_bus-in m market))))
    (picked_up-by_blocks m x r.line r.cause)
    ∙ by_ring ring_ℚ (row_offset m r ∷ start ∷ by_bus ∷ picked ∷ by_loss ∷ []) ((at 0 ⊕ (at 1 ⊕ at 2)) ⊕ (at 3 ⊕ at 4)) (((at 0 ⊕ at 1) ⊕ at 3) ⊕ (at 2 ⊕ at 4)) refl
    ∙ ap₂ ◌+ℚ◌ (sym (law_of_the_flows m (injection m (empty m)) (lost_output m (empty m)) r))
    (sym (sum_by-plus (λ j. a (block_bus m j) *ℚ raised_by m x j) (λ j. taken j *ℚ raised_by m x j) blocks)
    ∙ sum_by-same (λ j. a (block_bus m j) *ℚ raised_by m x j +ℚ taken j *ℚ raised_by m x j) (λ j. block_coefficient m r j *ℚ accepted x j) blocks
    (λ j. by_ring ring_ℚ (a (block_bus m j) ∷ taken j ∷ raised_by m x j ∷ []) (at 0 ⊗ at 2 ⊕ at 1 ⊗ at 2) ((at 0 ⊕ at 1) ⊗ at 2) refl
    ∙ ap (λ t. t *ℚ raised_by m x j) (sym (unit_factor-parts m r (block_at m j).unit))
    ∙ turned (block_at m j).side (unit_factor m r (block_at m j).unit) (accepted x j)))

pub balance-by_blocks : (m : Parts) → IsMarket m → (x : Dispatch)
    → balance m x ≡ balance m (empty m) +ℚ sum_by (λ j. block_sign m j *ℚ accepted x j) (places (length m.blocks))
balance-by_blocks m market x =
    balance-by_empty m x market
    ∙ ap (λ t. balance m (empty m) +ℚ t)
    (sum_by-same (raised_by m x) (λ j. block_sign m j *ℚ accepted x j) (places (length m.blocks)) (λ j. sym (signed-times (block_at m j).side (accepted x j))))

-- ---- the system
module _ (m : Parts) (apart : RowsApart m) (g : Taken) where
  abbrev pub over : Taken
  over = taken_in_order m g

  -- what the system is over
  ordered : AreInOrder m over
  ordered = taken-in_order m apart g

  abbrev pub s : System
  s = system_of m g

  pub block_in : (j : ℕ) → j < length m.blocks → Contains s.variables j
  block_in j h = variable_in m over (Block j) h

  pub balance_in : Contains s.variables (balance_name m)
  balance_in = variable_in m over Balance tt

  pub row_in : (r : Row) → Contains over.limits r → Contains s.variables (row_name m r)
  row_in r c = variable_in m over (Limit r) c

  pub offer_in : (n : ℕ) → n < length m.reserve.offers → Contains s.variables (offer_name m n)
  offer_in n h = variable_in m over (Offer n) h

  pub need_in : m.reserve.listed ≡ true → Contains s.variables (need_name m)
  need_in e = variable_in m over Need e

  pub room_in : (u : ℕ) → Contains over.rooms u → Contains s.variables (room_name m u)
  room_in u c = variable_in m over (Room u) c

  balance_row : Contains s.rows (balance_name m)
  balance_row = row_listed m over Balance (balance_among m over)

  row_row : (r : Row) → Contains over.limits r → Contains s.rows (row_name m r)
  row_row r c = row_listed m over (Limit r) (limit_in m over r c)

  need_row : m.reserve.listed ≡ true → Contains s.rows (need_name m)
  need_row e = row_listed m over Need (need_among m over e)

  room_row : (u : ℕ) → Contains over.rooms u → Contains s.rows (room_name m u)
  room_row u c = row_listed m over (Room u) (room_among m over u c)

  -- the names of a market's system ascend, whatever the order of the lists
  pub is_system_of : IsSystem s
  is_system_of = is_system_over m over ordered

  -- a sum over the variables is one over the columns and one over the rows
  pub both_parts : (f : ℕ → Fraction) → sum_by f s.variables ≡ sum_by f s.columns +ℚ sum_by f s.rows
  both_parts f = sum-variables m over f

  -- ---- coefficients and bounds by what a name is of
  pub coefficient-balance : (j : ℕ) → j < length m.blocks → s.coefficient (balance_name m) j ≡ block_sign m j
  coefficient-balance j h = coefficient-at m over ordered Balance (Block j) tt h

  pub coefficient-row : (r : Row) → Contains over.limits r → (j : ℕ) → j < length m.blocks → s.coefficient (row_name m r) j ≡ block_coefficient m r j
  coefficient-row r c j h = coefficient-at m over ordered (Limit r) (Block j) c h

  pub price-block : (j : ℕ) → j < length m.blocks → s.price j ≡ block_value m j
  price-block j h = price-at m over ordered (Block j) h

  pub low-block : (j : ℕ) → j < length m.blocks → s.low j ≡ nil
  low-block j h = low-at m over ordered (Block j) h

  pub high-block : (j : ℕ) → j < length m.blocks → s.high j ≡ quantity m j
  high-block j h = high-at m over ordered (Block j) h

  pub low-balance : s.low (balance_name m) ≡ residual_demand m
  low-balance = low-at m over ordered Balance tt

  pub high-balance : s.high (balance_name m) ≡ residual_demand m
  high-balance = high-at m over ordered Balance tt

  pub low-row : (r : Row) → Contains over.limits r → s.low (row_name m r) ≡ least_added m r
  low-row r c = low-at m over ordered (Limit r) c

  pub high-row : (r : Row) → Contains over.limits r → s.high (row_name m r) ≡ most_added m r
  high-row r c = high-at m over ordered (Limit r) c

  -- of offers, the need and rooms
  pub coefficient-need : m.reserve.listed ≡ true → (n : ℕ) → n < length m.reserve.offers → s.coefficient (need_name m) (offer_name m n) ≡ whole (pos 1)
  coefficient-need e n h = coefficient-at m over ordered Need (Offer n) e h

  pub coefficient-room : (u : ℕ) → Contains over.rooms u → (j : ℕ) → j < length m.blocks → s.coefficient (room_name m u) j ≡ at_unit u (block_at m j).unit (block_sign m j)
  coefficient-room u c j h = coefficient-at m over ordered (Room u) (Block j) c h

  pub coefficient-room_offer : (u : ℕ) → Contains over.rooms u → (n : ℕ) → n < length m.reserve.offers → s.coefficient (room_name m u) (offer_name m n) ≡ at_unit u (offer_at m n).unit (whole (pos 1))
  coefficient-room_offer u c n h = coefficient-at m over ordered (Room u) (Offer n) c h

  pub price-offer : (n : ℕ) → n < length m.reserve.offers → s.price (offer_name m n) ≡ neg_ℚ (offer_price m n)
  price-offer n h = price-at m over ordered (Offer n) h

  pub low-offer : (n : ℕ) → n < length m.reserve.offers → s.low (offer_name m n) ≡ nil
  low-offer n h = low-at m over ordered (Offer n) h

  pub high-offer : (n : ℕ) → n < length m.reserve.offers → s.high (offer_name m n) ≡ reserve_quantity m n
  high-offer n h = high-at m over ordered (Offer n) h

  pub low-need : m.reserve.listed ≡ true → s.low (need_name m) ≡ reserve_need m
  low-need e = low-at m over ordered Need e

  pub high-need : m.reserve.listed ≡ true → s.high (need_name m) ≡ most_reserve m
  high-need e = high-at m over ordered Need e

  pub low-room : (u : ℕ) → Contains over.rooms u → s.low (room_name m u) ≡ neg_ℚ (whole (unit_at m u).down)
  low-room u c = low-at m over ordered (Room u) c

  pub high-room : (u : ℕ) → Contains over.rooms u → s.high (room_name m u) ≡ room m u
  high-room u c = high-at m over ordered (Room u) c

  -- the columns of a soft row
  module _ (r : Row) (c : Contains over.limits r) (e : is_soft m r ≡ true) where
    pub over_variable : Contains s.variables (over_name m r)
    over_variable = variable_in m over (Over r) (c, e)

    pub under_variable : Contains s.variables (under_name m r)
    under_variable = variable_in m over (Under r) (c, e)

    pub over_column : Contains s.columns (over_name m r)
    over_column = column_listed m over (Over r) (excess_listed m over r c e).0

    pub under_column : Contains s.columns (under_name m r)
    under_column = column_listed m over (Under r) (excess_listed m over r c e).1

    pub price-over : s.price (over_name m r) ≡ neg_ℚ (penalty m r)
    price-over = price-at m over ordered (Over r) (c, e)

    pub price-under : s.price (under_name m r) ≡ neg_ℚ (penalty m r)
    price-under = price-at m over ordered (Under r) (c, e)

    pub low-over : s.low (over_name m r) ≡ nil
    low-over = low-at m over ordered (Over r) (c, e)

    pub low-under : s.low (under_name m r) ≡ nil
    low-under = low-at m over ordered (Under r) (c, e)

    pub high-over : s.high (over_name m r) ≡ most_excess m r
    high-over = high-at m over ordered (Over r) (c, e)

    pub high-under : s.high (under_name m r) ≡ most_excess m r
    high-under = high-at m over ordered (Under r) (c, e)

  -- ---- what the blocks are worth, less the penalties of the soft rows and what reserve costs
  pub welfare-in_order : AreRows m g.limits → (x : Dispatch) → welfare_for m g.limits x
      ≡ (sum_by (λ j. block_value m j *ℚ accepted x j) (places (length m.blocks)) +ℚ sum_by (λ r. neg_ℚ (penalty m r) *ℚ excess m x r) (soft m over))
      +ℚ sum_by (λ n. neg_ℚ (offer_price m n) *ℚ reserved x n) (offer_places m)
  unfolding welfare_for
  welfare-in_order are x =
      total-append (block_value_terms m x ++ penalty_terms m g.limits x) (reserve_cost_terms m x)
      ∙ ap₂ ◌+ℚ◌
      (total-append (block_value_terms m x) (penalty_terms m g.limits x)
      ∙ ap₂ ◌+ℚ◌
      (total-Product (block_value m) (accepted x) (places (length m.blocks)))
      (total-Product (λ r. neg_ℚ (penalty m r)) (excess m x) (filter (is_soft m) g.limits) ∙ sum_by-in_order m apart (λ r. neg_ℚ (penalty m r) *ℚ excess m x r) (is_soft m) g.limits are))
      (total-Product (λ n. neg_ℚ (offer_price m n)) (reserved x) (offer_places m))

  -- ---- a dispatch as a point
  -- what a column is at it: the columns of a soft row are what its flow is above its limit, and below the opposite
  column_at : Dispatch → Variable → Fraction
  column_at x (Block j) = accepted x j
  column_at x Balance = nil
  column_at x (Limit r) = nil
  column_at x (Over r) = part_above (flow m x r -ℚ limit m r)
  column_at x (Under r) = part_above (neg_ℚ (flow m x r) -ℚ limit m r)
  column_at x (Offer n) = reserved x n
  column_at x Need = nil
  column_at x (Room u) = nil

  by_name : Dispatch → ℕ → Fraction
  by_name x w = column_at x (variable_of m over w)

  named-at : (x : Dispatch) (v : Variable) → IsVariableOf m over v → by_name x (name m v) ≡ column_at x v
  unfolding by_name
  named-at x v is = ap (column_at x) (variable_at m over ordered v is)

  module _ (market : IsMarket m) where
    pub point_of : Dispatch → ℕ → Fraction
    point_of x = by_columns s is_system_of (by_name x)

    pub point_meets : (x : Dispatch) → MeetsRows s (point_of x)
    unfolding point_of
    point_meets x = by_columns-meets s is_system_of (by_name x)

    pub point-block : (x : Dispatch) (j : ℕ) → j < length m.blocks → point_of x j ≡ accepted x j
    unfolding point_of column_at
    point-block x j h = by_columns-column s is_system_of (by_name x) j (column_in m over j h) ∙ named-at x (Block j) h

    pub point-over : (x : Dispatch) (r : Row) → Contains over.limits r → is_soft m r ≡ true → point_of x (over_name m r) ≡ part_above (flow m x r -ℚ limit m r)
    unfolding point_of column_at
    point-over x r c e = by_columns-column s is_system_of (by_name x) (over_name m r) (over_column r c e) ∙ named-at x (Over r) (c, e)

    pub point-under : (x : Dispatch) (r : Row) → Contains over.limits r → is_soft m r ≡ true → point_of x (under_name m r) ≡ part_above (neg_ℚ (flow m x r) -ℚ limit m r)
    unfolding point_of column_at
    point-under x r c e = by_columns-column s is_system_of (by_name x) (under_name m r) (under_column r c e) ∙ named-at x (Under r) (c, e)

    pub point-offer : (x : Dispatch) (n : ℕ) → n < length m.reserve.offers → point_of x (offer_name m n) ≡ reserved x n
    unfolding point_of column_at
    point-offer x n h = by_columns-column s is_system_of (by_name x) (offer_name m n) (offer_column m over n h) ∙ named-at x (Offer n) h

    -- a sum over the blocks, and one over the offers
    of_blocks : (f v : ℕ → Fraction) (x : Dispatch) → ((j : ℕ) → j < length m.blocks → v j ≡ accepted x j)
        → sum_by (λ j. f j *ℚ v j) (places (length m.blocks)) ≡ sum_by (λ j. f j *ℚ accepted x j) (places (length m.blocks))
    of_blocks f v x same = sum_by-members (λ j. f j *ℚ v j) (λ j. f j *ℚ accepted x j) (places (length m.blocks)) (λ j c. ap (λ t. f j *ℚ t) (same j (Contains-from_places (length m.blocks) j c)))

    of_offers : (f v : ℕ → Fraction) (x : Dispatch) → ((n : ℕ) → n < length m.reserve.offers → v (offer_name m n) ≡ reserved x n)
        → sum_by (λ n. f n *ℚ v (offer_name m n)) (offer_places m) ≡ sum_by (λ n. f n *ℚ reserved x n) (offer_places m)
    of_offers f v x same =
        sum_by-members (λ n. f n *ℚ v (offer_name m n)) (λ n. f n *ℚ reserved x n) (offer_places m) (λ n c. ap (λ t. f n *ℚ t) (same n (Contains-from_places (length m.reserve.offers) n c)))

    -- the reserve in all is that of the offers' columns
    all_offers : (v : ℕ → Fraction) (x : Dispatch) → ((n : ℕ) → n < length m.reserve.offers → v (offer_name m n) ≡ reserved x n) → sum_by (λ n. v (offer_name m n)) (offer_places m) ≡ reserve m x
    all_offers v x same =
        sum_by-members (λ n. v (offer_name m n)) (reserved x) (offer_places m) (λ n c. same n (Contains-from_places (length m.reserve.offers) n c)) ∙ sym (reserve-by_offers m x)

    pub point-balance : (x : Dispatch) → point_of x (balance_name m) ≡ balance m x +ℚ residual_demand m
    point-balance x =
        (point_meets x).row (balance_name m) balance_row
        ∙ activity-balance m over ordered (point_of x)
        ∙ of_blocks (block_sign m) (point_of x) x (point-block x)
        ∙ by_ring1 ring_ℚ (balance m x ∷ balance m (empty m) ∷ sum_by (λ j. block_sign m j *ℚ accepted x j) (places (length m.blocks)) ∷ []) (at 2) (at 0 ⊕ pneg (at 1)) (pneg pone) (at 0) (at 1 ⊕ at 2)
        (balance-by_blocks m market x) refl

    pub point-need : (x : Dispatch) → m.reserve.listed ≡ true → point_of x (need_name m) ≡ reserve m x
    point-need x e = (point_meets x).row (need_name m) (need_row e) ∙ activity-need m over ordered (point_of x) e ∙ all_offers (point_of x) x (point-offer x)

    pub point-room : (x : Dispatch) (u : ℕ) → Contains over.rooms u → point_of x (room_name m u) ≡ room_used m x u
    point-room x u c =
        (point_meets x).row (room_name m u) (room_row u c)
        ∙ activity-room m over ordered (point_of x) u c
        ∙ ap₂ ◌+ℚ◌
        (of_blocks (λ j. at_unit u (block_at m j).unit (block_sign m j)) (point_of x) x (point-block x))
        (of_offers (λ n. at_unit u (offer_at m n).unit (whole (pos 1))) (point_of x) x (point-offer x))
        ∙ sym (room_used-by_columns m x u)

    -- what the blocks add to a flow, brought back within the limit
    abbrev brought : Dispatch → Row → Fraction
    brought x r = flow m x r +ℚ (kept (is_soft m r) (part_above (neg_ℚ (flow m x r) -ℚ limit m r)) -ℚ kept (is_soft m r) (part_above (flow m x r -ℚ limit m r)))

    pub point-row : (x : Dispatch) (r : Row) → Contains over.limits r → point_of x (row_name m r) ≡ brought x r -ℚ flow m (empty m) r
    point-row x r c =
        (point_meets x).row (row_name m r) (row_row r c)
        ∙ activity-limit m over ordered (point_of x) r c
        ∙ ap₂ (λ (a b : Fraction). a +ℚ b) (of_blocks (block_coefficient m r) (point_of x) x (point-block x))
        (ap₂ (λ (a b : Fraction). a -ℚ b) (kept_where (is_soft m r) (point-under x r c)) (kept_where (is_soft m r) (point-over x r c)))
        ∙ by_ring1 ring_ℚ (flow m x r ∷ flow m (empty m) r ∷ sum_by (λ j. block_coefficient m r j *ℚ accepted x j) (places (length m.blocks)) ∷ kept (is_soft m r) (part_above (neg_ℚ (flow m x r) -ℚ limit m r)) ∷ kept (is_soft m r) (part_above (flow m x r -ℚ limit m r)) ∷ [])
        (at 2 ⊕ (at 3 ⊕ pneg (at 4))) ((at 0 ⊕ (at 3 ⊕ pneg (at 4))) ⊕ pneg (at 1)) (pneg pone) (at 0) (at 1 ⊕ at 2)
        (flow-by_blocks m market x r) refl

    -- a feasible dispatch is within the bounds
    module _ (x : Dispatch) (f : FeasibleFor m g x) where
      point_balanced : point_of x (balance_name m) ≡ residual_demand m
      point_balanced = point-balance x ∙ ap (λ t. t +ℚ residual_demand m) f.balanced ∙ by_ring ring_ℚ (residual_demand m ∷ []) (pnil ⊕ at 0) (at 0) refl

      flow_kept : (r : Row) → Contains over.limits r → Within (most_flow m r) (flow m x r)
      flow_kept r c = f.limits r (in_order-from m g.limits r c).1

      point_kept : (r : Row) → Contains over.limits r → Within (limit m r) (brought x r)
      point_kept r c = kept_within m market r (flow m x r) (flow_kept r c)

      point_low : (v : Variable) → IsVariableOf m over v → s.low (name m v) ≤ℚ point_of x (name m v)
      point_low (Block j) h = subst₂ ◌≤ℚ◌ (sym (low-block j h)) (sym (point-block x j h)) (f.blocks.above j h)
      point_low Balance h = ≤ℚ_of_same (s.low (balance_name m)) (point_of x (balance_name m)) (low-balance ∙ sym point_balanced)
      point_low (Limit r) c = subst₂ ◌≤ℚ◌ (sym (low-row r c)) (sym (point-row x r c))
          (by_le1 (limit m r ∷ brought x r ∷ flow m (empty m) r ∷ []) (pneg (at 0) ⊕ pneg (at 2)) (at 1 ⊕ pneg (at 2)) pone (pneg (at 0)) (at 1) NonNeg-one (point_kept r c).above refl)
      point_low (Over r) (c, e) = subst₂ ◌≤ℚ◌ (sym (low-over r c e)) (sym (point-over x r c e)) (part_least (flow m x r -ℚ limit m r)).0
      point_low (Under r) (c, e) = subst₂ ◌≤ℚ◌ (sym (low-under r c e)) (sym (point-under x r c e)) (part_least (neg_ℚ (flow m x r) -ℚ limit m r)).0
      point_low (Offer n) h = subst₂ ◌≤ℚ◌ (sym (low-offer n h)) (sym (point-offer x n h)) (f.blocks.reserve_above n h)
      point_low Need e = subst₂ ◌≤ℚ◌ (sym (low-need e)) (sym (point-need x e)) f.need
      point_low (Room u) c = subst₂ ◌≤ℚ◌ (sym (low-room u c)) (sym (point-room x u c)) (room_used-at_least m x f.blocks market u (listed-inside m u (ordered.units u c)))

      point_high : (v : Variable) → IsVariableOf m over v → point_of x (name m v) ≤ℚ s.high (name m v)
      point_high (Block j) h = subst₂ ◌≤ℚ◌ (sym (point-block x j h)) (sym (high-block j h)) (f.blocks.within j h)
      point_high Balance h = ≤ℚ_of_same (point_of x (balance_name m)) (s.high (balance_name m)) (point_balanced ∙ sym high-balance)
      point_high (Limit r) c = subst₂ ◌≤ℚ◌ (sym (point-row x r c)) (sym (high-row r c))
          (by_le1 (limit m r ∷ brought x r ∷ flow m (empty m) r ∷ []) (at 1 ⊕ pneg (at 2)) (at 0 ⊕ pneg (at 2)) pone (at 1) (at 0) NonNeg-one (point_kept r c).below refl)
      point_high (Over r) (c, e) = subst₂ ◌≤ℚ◌ (sym (point-over x r c e)) (sym (high-over r c e))
          (part_most (flow m x r -ℚ limit m r) (most_excess m r) (most_excess_least m market r)
          (by_le1 (limit m r ∷ most_excess m r ∷ flow m x r ∷ []) (at 2 ⊕ pneg (at 0)) (at 1) pone (at 2) (at 0 ⊕ at 1) NonNeg-one (flow_kept r c).below refl))
      point_high (Under r) (c, e) = subst₂ ◌≤ℚ◌ (sym (point-under x r c e)) (sym (high-under r c e))
          (part_most (neg_ℚ (flow m x r) -ℚ limit m r) (most_excess m r) (most_excess_least m market r)
          (by_le1 (limit m r ∷ most_excess m r ∷ flow m x r ∷ []) (pneg (at 2) ⊕ pneg (at 0)) (at 1) pone (pneg (at 0 ⊕ at 1)) (at 2) NonNeg-one (flow_kept r c).above refl))
      point_high (Offer n) h = subst₂ ◌≤ℚ◌ (sym (point-offer x n h)) (sym (high-offer n h)) (f.blocks.reserve_within n h)
      point_high Need e = subst₂ ◌≤ℚ◌ (sym (point-need x e)) (sym (high-need e)) (reserve-at_most_kept m x f.blocks)
      point_high (Room u) c = subst₂ ◌≤ℚ◌ (sym (point-room x u c)) (sym (high-room u c)) (f.rooms u (rooms_in_order-from m g.rooms u c).1)

      pub point_within : InBounds s (point_of x)
      point_within = record { low = by_variable m over (λ w. s.low w ≤ℚ point_of x w) point_low; high = by_variable m over (λ w. point_of x w ≤ℚ s.high w) point_high }

    -- and its objective is its welfare
    pub point_welfare : AreRows m g.limits → (x : Dispatch) → objective s (point_of x) ≡ welfare_for m g.limits x
    point_welfare are x =
        objective-at m over ordered (point_of x)
        ∙ ap₂ ◌+ℚ◌
        (ap₂ ◌+ℚ◌ (of_blocks (block_value m) (point_of x) x (point-block x))
        (sum_by-members (λ r. neg_ℚ (penalty m r) *ℚ (point_of x (over_name m r) +ℚ point_of x (under_name m r))) (λ r. neg_ℚ (penalty m r) *ℚ excess m x r) (soft m over)
        (λ r k. let c = Contains-from_filter (is_soft m) over.limits r k in
        ap (λ t. neg_ℚ (penalty m r) *ℚ t) (ap₂ (λ (a b : Fraction). a +ℚ b) (point-over x r c.0 c.1) (point-under x r c.0 c.1) ∙ sym (excess-parts m market r (flow m x r))))))
        (of_offers (λ n. neg_ℚ (offer_price m n)) (point_of x) x (point-offer x))
        ∙ sym (welfare-in_order are x)

    -- ---- a point as a dispatch
    abbrev pub dispatch_at : (ℕ → Fraction) → Dispatch
    dispatch_at v = point_dispatch m v

    pub dispatch_at-accepted : (v : ℕ → Fraction) (j : ℕ) → j < length m.blocks → accepted (dispatch_at v) j ≡ v j
    dispatch_at-accepted v j h =
        let long : length (places (length m.blocks)) ≡ length m.blocks = length-range_with_len 0 (length m.blocks) in
        let at_place : get_or (places (length m.blocks)) j 0 ≡ j = get_or-range_with_len 0 (length m.blocks) j 0 h ∙ Prim.omega arith in
        get_or-map v (places (length m.blocks)) j 0 nil (Prim.omega (arith, h, long)) ∙ ap v at_place

    pub dispatch_at-reserved : (v : ℕ → Fraction) (n : ℕ) → n < length m.reserve.offers → reserved (dispatch_at v) n ≡ v (offer_name m n)
    dispatch_at-reserved v n h =
        let long : length (offer_places m) ≡ length m.reserve.offers = length-range_with_len 0 (length m.reserve.offers) in
        let at_place : get_or (offer_places m) n 0 ≡ n = get_or-range_with_len 0 (length m.reserve.offers) n 0 h ∙ Prim.omega arith in
        get_or-map (λ k. v (offer_name m k)) (offer_places m) n 0 nil (Prim.omega (arith, h, long)) ∙ ap (λ k. v (offer_name m k)) at_place

    of_dispatch : (f v : ℕ → Fraction) → sum_by (λ j. f j *ℚ accepted (dispatch_at v) j) (places (length m.blocks)) ≡ sum_by (λ j. f j *ℚ v j) (places (length m.blocks))
    of_dispatch f v = sym (of_blocks f v (dispatch_at v) (λ j h. sym (dispatch_at-accepted v j h)))

    of_dispatch_offers : (f v : ℕ → Fraction) → sum_by (λ n. f n *ℚ reserved (dispatch_at v) n) (offer_places m) ≡ sum_by (λ n. f n *ℚ v (offer_name m n)) (offer_places m)
    of_dispatch_offers f v = sym (of_offers f v (dispatch_at v) (λ n h. sym (dispatch_at-reserved v n h)))

    module _ (v : ℕ → Fraction) (meets : MeetsRows s v) where
      pub dispatch_balance : balance m (dispatch_at v) ≡ balance m (empty m) +ℚ v (balance_name m)
      dispatch_balance =
          balance-by_blocks m market (dispatch_at v)
          ∙ ap (λ t. balance m (empty m) +ℚ t) (of_dispatch (block_sign m) v ∙ sym (activity-balance m over ordered v) ∙ sym (meets.row (balance_name m) balance_row))

      -- its reserve is what the need's row has, and what a unit uses of its room what the room's row has
      pub dispatch_reserve : m.reserve.listed ≡ true → reserve m (dispatch_at v) ≡ v (need_name m)
      dispatch_reserve e =
          sym (all_offers v (dispatch_at v) (λ n h. sym (dispatch_at-reserved v n h))) ∙ sym (activity-need m over ordered v e) ∙ sym (meets.row (need_name m) (need_row e))

      pub dispatch_room : (u : ℕ) → Contains over.rooms u → room_used m (dispatch_at v) u ≡ v (room_name m u)
      dispatch_room u c =
          room_used-by_columns m (dispatch_at v) u
          ∙ ap₂ ◌+ℚ◌ (of_dispatch (λ j. at_unit u (block_at m j).unit (block_sign m j)) v) (of_dispatch_offers (λ n. at_unit u (offer_at m n).unit (whole (pos 1))) v)
          ∙ sym (activity-room m over ordered v u c)
          ∙ sym (meets.row (room_name m u) (room_row u c))

      -- the flow of a row is what it has within the limit, with what is over it less what is under
      pub dispatch_flow : (r : Row) → Contains over.limits r → flow m (dispatch_at v) r ≡ (flow m (empty m) r +ℚ v (row_name m r)) +ℚ (over_in m v r -ℚ under_in m v r)
      dispatch_flow r c =
          flow-by_blocks m market (dispatch_at v) r
          ∙ ap (λ t. flow m (empty m) r +ℚ t) (of_dispatch (block_coefficient m r) v)
          ∙ by_ring1 ring_ℚ (flow m (empty m) r ∷ sum_by (λ j. block_coefficient m r j *ℚ v j) (places (length m.blocks)) ∷ v (row_name m r) ∷ over_in m v r ∷ under_in m v r ∷ [])
          (at 0 ⊕ at 1) ((at 0 ⊕ at 2) ⊕ (at 3 ⊕ pneg (at 4))) (pneg pone) (at 2) (at 1 ⊕ (at 4 ⊕ pneg (at 3)))
          (meets.row (row_name m r) (row_row r c) ∙ activity-limit m over ordered v r c) refl

      module _ (within : InBounds s v) (r : Row) (c : Contains over.limits r) where
        pub added_within : Within (limit m r) (flow m (empty m) r +ℚ v (row_name m r))
        added_within = record {
          above =
              by_le1 (limit m r ∷ v (row_name m r) ∷ flow m (empty m) r ∷ []) (pneg (at 0)) (at 2 ⊕ at 1) pone (pneg (at 0) ⊕ pneg (at 2)) (at 1) NonNeg-one
              (subst (λ t. t ≤ℚ v (row_name m r)) (low-row r c) (within.low (row_name m r) (row_in r c))) refl;
          below =
              by_le1 (limit m r ∷ v (row_name m r) ∷ flow m (empty m) r ∷ []) (at 2 ⊕ at 1) (at 0) pone (at 1) (at 0 ⊕ pneg (at 2)) NonNeg-one
              (subst (λ t. v (row_name m r) ≤ℚ t) (high-row r c) (within.high (row_name m r) (row_in r c))) refl;
        }

        pub over_between : (nil ≤ℚ over_in m v r) × (over_in m v r ≤ℚ most_excess m r)
        over_between = kept_between (is_soft m r) (v (over_name m r)) (most_excess m r) (most_excess_least m market r)
            (λ e. subst (λ t. t ≤ℚ v (over_name m r)) (low-over r c e) (within.low (over_name m r) (over_variable r c e)))
            (λ e. subst (λ t. v (over_name m r) ≤ℚ t) (high-over r c e) (within.high (over_name m r) (over_variable r c e)))

        pub under_between : (nil ≤ℚ under_in m v r) × (under_in m v r ≤ℚ most_excess m r)
        under_between = kept_between (is_soft m r) (v (under_name m r)) (most_excess m r) (most_excess_least m market r)
            (λ e. subst (λ t. t ≤ℚ v (under_name m r)) (low-under r c e) (within.low (under_name m r) (under_variable r c e)))
            (λ e. subst (λ t. v (under_name m r) ≤ℚ t) (high-under r c e) (within.high (under_name m r) (under_variable r c e)))

        flow_within : Within (most_flow m r) (flow m (dispatch_at v) r)
        flow_within = subst (Within (most_flow m r)) (sym (dispatch_flow r c))
            (spread_within (limit m r) (most_excess m r) (flow m (empty m) r +ℚ v (row_name m r)) (over_in m v r) (under_in m v r) added_within over_between.0 under_between.0 over_between.1 under_between.1)

        -- its excess is no more than what is over and under
        excess_least : excess m (dispatch_at v) r ≤ℚ (over_in m v r +ℚ under_in m v r)
        excess_least = subst (λ t. t ≤ℚ (over_in m v r +ℚ under_in m v r)) (sym (ap (excess_by m r) (dispatch_flow r c) ∙ excess-parts m market r flows))
            (+ℚ-≤ℚ (part_above (flows -ℚ limit m r)) (over_in m v r) (part_above (neg_ℚ flows -ℚ limit m r)) (under_in m v r)
            (spread_over (limit m r) (most_excess m r) added (over_in m v r) (under_in m v r) added_within over_between.0 under_between.0)
            (spread_under (limit m r) (most_excess m r) added (over_in m v r) (under_in m v r) added_within over_between.0 under_between.0))
          where
            added : Fraction
            added = flow m (empty m) r +ℚ v (row_name m r)

            flows : Fraction
            flows = (flow m (empty m) r +ℚ v (row_name m r)) +ℚ (over_in m v r -ℚ under_in m v r)

      -- a point within the bounds is feasible for rows of the market and rooms of units that offer reserve
      module _ (within : InBounds s v) where
        dispatch_is : IsDispatch m (dispatch_at v)
        dispatch_is = record {
          count = counted v (places (length m.blocks)) ∙ length-range_with_len 0 (length m.blocks);
          above = λ j h. subst₂ ◌≤ℚ◌ (low-block j h) (sym (dispatch_at-accepted v j h)) (within.low j (block_in j h));
          within = λ j h. subst₂ ◌≤ℚ◌ (sym (dispatch_at-accepted v j h)) (high-block j h) (within.high j (block_in j h));
          reserve_count = counted (λ n. v (offer_name m n)) (offer_places m) ∙ length-range_with_len 0 (length m.reserve.offers);
          reserve_above = λ n h. subst₂ ◌≤ℚ◌ (low-offer n h) (sym (dispatch_at-reserved v n h)) (within.low (offer_name m n) (offer_in n h));
          reserve_within = λ n h. subst₂ ◌≤ℚ◌ (sym (dispatch_at-reserved v n h)) (high-offer n h) (within.high (offer_name m n) (offer_in n h));
        }
          where
            counted : (f : ℕ → Fraction) (ws : List ℕ) → length (map f ws) ≡ length ws
            counted f [] = refl
            counted f (w ∷ ws) = ap suc (counted f ws)

        need_met : (b : Bool) → m.reserve.listed ≡ b → reserve_need m ≤ℚ reserve m (dispatch_at v)
        need_met true e = subst₂ ◌≤ℚ◌ (low-need e) (sym (dispatch_reserve e)) (within.low (need_name m) (need_in e))
        need_met false e =
            let alone = market.reserve.unlisted e in
            ≤ℚ_of_same (reserve_need m) (reserve m (dispatch_at v)) (no_need m alone ∙ sym (nothing_reserved m alone (dispatch_at v)))

      pub dispatch_feasible : ((r : Row) → Contains g.limits r → Contains (rows m) r) → ((u : ℕ) → Contains g.rooms u → Contains (reserve_units m) u) → InBounds s v → FeasibleFor m g (dispatch_at v)
      dispatch_feasible all units within = record {
        blocks = dispatch_is within;
        balanced =
            dispatch_balance
            ∙ ap (λ t. balance m (empty m) +ℚ t)
            (≤ℚ_antisym (v (balance_name m)) (residual_demand m) (subst (λ t. v (balance_name m) ≤ℚ t) high-balance (within.high (balance_name m) balance_in)) (subst (λ t. t ≤ℚ v (balance_name m)) low-balance (within.low (balance_name m) balance_in)))
            ∙ by_ring ring_ℚ (balance m (empty m) ∷ []) (at 0 ⊕ pneg (at 0)) pnil refl;
        limits = λ r c. flow_within within r (in_order-in m g.limits r (all r c) c);
        need = need_met within m.reserve.listed refl;
        rooms = λ u c. let k = rooms_in_order-in m g.rooms u (units u c) c in subst₂ ◌≤ℚ◌ (sym (dispatch_room u k)) (high-room u k) (within.high (room_name m u) (room_in u k));
      }

      -- and worth no less
      pub dispatch_welfare : AreRows m g.limits → InBounds s v → objective s v ≤ℚ welfare_for m g.limits (dispatch_at v)
      dispatch_welfare are within = subst₂ ◌≤ℚ◌ (sym (objective-at m over ordered v)) (sym (welfare-in_order are (dispatch_at v)))
          (+ℚ-≤ℚ (blocks_at_point +ℚ sum_by penalty_at_point (soft m over)) (blocks_at_dispatch +ℚ sum_by penalty_at_dispatch (soft m over)) offers_at_point offers_at_dispatch
          (+ℚ-≤ℚ blocks_at_point blocks_at_dispatch (sum_by penalty_at_point (soft m over)) (sum_by penalty_at_dispatch (soft m over))
          (≤ℚ_of_same blocks_at_point blocks_at_dispatch (sym (of_dispatch (block_value m) v)))
          (sum_by-≤ penalty_at_point penalty_at_dispatch (soft m over)
          (along (λ r. penalty_at_point r ≤ℚ penalty_at_dispatch r) (soft m over)
          (λ r k. let c = Contains-from_filter (is_soft m) over.limits r k in
          by_le1 (penalty m r ∷ (v (over_name m r) +ℚ v (under_name m r)) ∷ excess m (dispatch_at v) r ∷ []) (pneg (at 0) ⊗ at 1) (pneg (at 0) ⊗ at 2) (at 0) (at 2) (at 1) (NonNeg_from (penalty m r) (penalty_least m market r))
          (subst (λ (b : Bool). excess m (dispatch_at v) r ≤ℚ (kept b (v (over_name m r)) +ℚ kept b (v (under_name m r)))) c.1 (excess_least within r c.0)) refl))))
          (≤ℚ_of_same offers_at_point offers_at_dispatch (sym (of_dispatch_offers (λ n. neg_ℚ (offer_price m n)) v))))
        where
          blocks_at_point : Fraction
          blocks_at_point = sum_by (λ j. block_value m j *ℚ v j) (places (length m.blocks))

          blocks_at_dispatch : Fraction
          blocks_at_dispatch = sum_by (λ j. block_value m j *ℚ accepted (dispatch_at v) j) (places (length m.blocks))

          penalty_at_point : Row → Fraction
          penalty_at_point r = neg_ℚ (penalty m r) *ℚ (v (over_name m r) +ℚ v (under_name m r))

          penalty_at_dispatch : Row → Fraction
          penalty_at_dispatch r = neg_ℚ (penalty m r) *ℚ excess m (dispatch_at v) r

          offers_at_point : Fraction
          offers_at_point = sum_by (λ n. neg_ℚ (offer_price m n) *ℚ v (offer_name m n)) (offer_places m)

          offers_at_dispatch : Fraction
          offers_at_dispatch = sum_by (λ n. neg_ℚ (offer_price m n) *ℚ reserved (dispatch_at v) n) (offer_places m)

    -- ---- the two together
    pub points_are : AreTaken m g → PointsAreDispatches m g
    points_are are = record {
      point = λ x f. (
        point_of x,
        point_meets x,
        point_within x f,
        point_welfare are.limits x,
        λ j c. point-block x j (Contains-from_places (length m.blocks) j c),
        λ n c. point-offer x n (Contains-from_places (length m.reserve.offers) n c),
      );
      dispatch = λ v meets within. (dispatch_feasible v meets are.limits.rows are.rooms within, dispatch_welfare v meets are.limits within);
    }
