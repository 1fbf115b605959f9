-- A solved choice of a market's system over some of its limit rows and rooms: its dispatch is best for these, and its duals support it where
-- the limits of other rows are kept.
use Rattle.std.specs.Prelude.{◌≡◌, ℕ, ◌<◌, ◌==◌, ◌&&◌, pos, Bool, true, false, List, [], ◌∷◌, length, if◌then◌else◌, Contains, refl, ◌⊎◌}
use Rattle.std.proofs.Common.{arith, ap, ap₂, sym, ◌∙◌, subst, subst₂, inl, inr}
use Rattle.fraction_theory.specs.Fraction.{Fraction, whole, neg_ℚ, ◌+ℚ◌, ◌-ℚ◌, ◌*ℚ◌}
use Rattle.fraction_theory.specs.Order.{◌≤ℚ◌, ◌<ℚ◌}
use Rattle.fraction_theory.specs.Signs.{sign_of, part_above}
use Rattle.fraction_theory.specs.Sums.{sum_by}
use Rattle.fraction_theory.proofs.Ring.{by_ring, by_ring1, at, pnil, pone, pneg, ◌⊕◌, ◌⊗◌}
use Rattle.fraction_theory.proofs.FieldLaws.{ring_ℚ}
use Rattle.fraction_theory.proofs.OrderLaws.{≤ℚ_antisym, ≤ℚ_trans, ≤ℚ_refl, ≤ℚ-or-<ℚ, <ℚ_irrefl, <ℚ-not-≤ℚ, by_le1, not-≤ℚ, NonNeg-one}
use Rattle.fraction_theory.proofs.SignLaws.{part_at_most, part_least}
use Rattle.fraction_theory.proofs.SumLaws.{sum_by-nil, sum_by-same, sum_by-times, total-Product}
use Rattle.fraction_theory.proofs.ListSums.{kept, Contains-filter, Contains-from_filter, sum_by-filter, sum_by-members}
use Rattle.linear_system.specs.Systems.{System, IsSystem, objective}
use Rattle.linear_system.specs.Choices.{Choice, IsChoice, value, reduced}
use Rattle.linear_system.proofs.Multipliers.{price_by_rows}
use Rattle.simplex_theory.specs.States.{IsSolved}
use Rattle.market_model.specs.declared.answered.Duals.{Duals}
use Rattle.market_model.specs.declared.participants.Side.{Side}
use Rattle.market_model.specs.declared.participants.Side.TheVariants.{Sell, Buy}
use Rattle.market_model.specs.declared.participants.Parts.{Parts}
use Rattle.market_model.specs.declared.participants.Reserve.{Reserve}
use Rattle.market_model.specs.Dispatch.{Dispatch, zero as nil, places, block_at, blocks_of, offer_at, unit_at, signed_by_side, raised_by, accepted, quantity, reserved, reserve_quantity, empty}
use Rattle.market_model.specs.declared.limits.Row.{Row}
use Rattle.market_model.specs.LimitRows.{rows, limit, is_soft, penalty, most_excess, unit_factor, flow}
use Rattle.market_model.specs.Market.{IsMarket}
use Rattle.market_model.specs.Optimality.{Taken, block_value, price, net_shadow_price, up_of, down_of, unit_price, energy_worth, reserve_worth, room_price, welfare_for, Gains, Loses, BlockSupported, OfferSupported, NeedSupported, RoomSupported, SideSupported, RowSupported, Supports, ProperDuals, congestion_by, price_by, BestFor}
use Rattle.market_model.specs.Reserves.{offer_places, offers_of, reserve, reserve_need, offer_price, reserve_units, offers_reserve, room, room_used}
use Rattle.market_model.proofs.Excesses.{penalty_least}
use Rattle.market_model.proofs.PlaceSums.{sum_by-one_place}
use Rattle.market_model.proofs.MarketSums.{block_unit-in}
use Rattle.market_model.proofs.ReserveSums.{offer_unit-in, reserve-by_offers, room_used-by_parts}
use Rattle.market_model.proofs.RoomLemmas.{listed-inside}
use Rattle.market_model.proofs.RowLaws.{unit_price-by_factors}
use Rattle.market_system.specs.declared.variables.Variable.TheVariants.{Block, Balance, Limit, Over, Under, Offer, Need, Room}
use Rattle.market_system.specs.MarketSystem.{low, balance_name, row_name, over_name, under_name, offer_name, need_name, room_name, at_row, at_unit, is_in, in_order, is_among, rooms_in_order, taken_in_order, block_sign, block_coefficient, system_of, choice_dispatch, duals_by_cost, choice_duals}
use Rattle.market_system.specs.SolvedLaws.{AreTaken, SupportsFor, state_at}
use Rattle.market_system.proofs.Clamps.{all_reach, room_low-blocks, room_low-offers, where_low, raised-low, raised-least, block_clamped-full, block_clamped-empty, offer_clamped-full, offer_clamped-empty, buys_fit}
use Rattle.market_system.proofs.RowOrder.{RowsApart, AreInOrder, same_row-itself, same_row-not, is_in-in, is_in-from, is_among-from, in_order-in, in_order-filter, ordered-distinct}
use Rattle.market_system.proofs.DualLists.{NamesApart, rows_apart, takes_room, rooms_in_order-places, same_itself, up_by, down_by, up_sign, down_sign, up_most, down_most, up_is, down_is, up-made, down-made, net_price-made, room_price-made, proper-made}
use Rattle.market_system.proofs.MarketPoints.{point_of, point_meets, point_within, point_welfare, dispatch_at-accepted, dispatch_at-reserved, dispatch_reserve, dispatch_room, dispatch_welfare, dispatch_flow, dispatch_feasible, added_within, over_between, under_between}
use Rattle.market_system.proofs.RowSums.{sum_by-alone}
use Rattle.market_system.proofs.SoftRows.{kept_most, kept_nil, side_stands, side_unpriced}
use Rattle.market_system.proofs.VariableLaws.{taken-in_order, is_system_over, column_in, offer_in, column_listed, excess_listed, variable_in, over_in, under_in, sum-rows, sum-variables, coefficient-at, price-at, low-at, high-at}
use Rattle.market_system.proofs.RoomBounds.{offered-by_offers, offered_most}
use Rattle.market_model.specs.Overrun.{Within}
use Rattle.market_model.proofs.RowMembers.{Contains-places, Contains-from_places}

-- ---- differences by their sign
less_below : (x y : Fraction) → x <ℚ y → (x -ℚ y) <ℚ nil
less_below x y l = not-≤ℚ nil (x -ℚ y) (λ n. <ℚ-not-≤ℚ x y l (by_le1 (x ∷ y ∷ []) (at 1) (at 0) pone pnil (at 0 ⊕ pneg (at 1)) NonNeg-one n refl))

less_above : (x y : Fraction) → y <ℚ x → nil <ℚ (x -ℚ y)
less_above x y l = not-≤ℚ (x -ℚ y) nil (λ n. <ℚ-not-≤ℚ y x l (by_le1 (x ∷ y ∷ []) (at 0) (at 1) pone (at 0 ⊕ pneg (at 1)) pnil NonNeg-one n refl))

opposite_above : (x : Fraction) → nil <ℚ neg_ℚ x → x <ℚ nil
opposite_above x l = not-≤ℚ nil x (λ n. <ℚ-not-≤ℚ nil (neg_ℚ x) l (by_le1 (x ∷ []) (pneg (at 0)) pnil pone pnil (at 0) NonNeg-one n refl))

opposite_below : (x : Fraction) → neg_ℚ x <ℚ nil → nil <ℚ x
opposite_below x l = not-≤ℚ x nil (λ n. <ℚ-not-≤ℚ (neg_ℚ x) nil l (by_le1 (x ∷ []) pnil (pneg (at 0)) pone (at 0) pnil NonNeg-one n refl))

-- where a part above 0 is above 0, the number is
part_positive : (x : Fraction) → nil <ℚ part_above x → nil <ℚ x
part_positive x l = elim (≤ℚ-or-<ℚ x nil) [
  | inl low ↦ absurd (<ℚ_irrefl nil (subst (λ y. nil <ℚ y) (part_at_most x low) l))
  | inr above ↦ above
]

-- where other rows' limits are kept, duals that support a dispatch so far support it over all rows
pub supports_by : (m : Parts) (g : List Row) (x : Dispatch) (d : Duals Fraction) → SupportsFor m g x d → ((r : Row) → Contains (rows m) r → ¬ (Contains g r) → Within (limit m r) (flow m x r)) → Supports m x d
supports_by m g x d s kept = record { blocks = s.blocks; rows = λ r c. by r c (is_in g r) refl; offers = s.offers; need = s.need; rooms = s.rooms }
  where
    by : (r : Row) → Contains (rows m) r → (b : Bool) → is_in g r ≡ b → RowSupported m x d r
    by r c true e = s.rows r (c, inl (is_in-from g r e))
    by r c false e = s.rows r (c, inr (kept r c (λ k. let wrong : false ≡ true = sym e ∙ is_in-in g r k in absurd cc)))

-- ---- prices of duals that are made of costs by name
module _ (m : Parts) (names : NamesApart m) (cost_of : ℕ → Fraction) (t : Taken) where
  abbrev made : Duals Fraction
  made = duals_by_cost m t cost_of

  abbrev energy : Fraction
  energy = neg_ℚ (cost_of (balance_name m))

  abbrev cost : Row → Fraction
  cost r = cost_of (row_name m r)

  -- what the rows of the list take, by factors
  pub price-made : (factor : Row → Fraction) → price_by m made factor ≡ energy +ℚ sum_by (λ r. neg_ℚ (cost r) *ℚ factor r) (in_order m t.limits)
  unfolding price_by congestion_by
  price-made factor = ap (λ y. energy +ℚ y)
      (total-Product (λ r. neg_ℚ (net_shadow_price m made r)) factor (rows m)
      ∙ sum_by-members (λ r. neg_ℚ (net_shadow_price m made r) *ℚ factor r) (λ r. kept (is_in t.limits r) (neg_ℚ (cost r) *ℚ factor r)) (rows m)
      (λ r c. ap (λ y. neg_ℚ y *ℚ factor r) (net_price-made m names cost_of t r c) ∙ by (is_in t.limits r) (cost r) (factor r))
      ∙ sym (sum_by-filter (λ r. neg_ℚ (cost r) *ℚ factor r) (is_in t.limits) (rows m))
      ∙ ap (sum_by (λ r. neg_ℚ (cost r) *ℚ factor r)) (sym (in_order-filter m t.limits)))
    where
      by : (b : Bool) (x a : Fraction) → neg_ℚ (if b then x else nil) *ℚ a ≡ kept b (neg_ℚ x *ℚ a)
      by true x a = refl
      by false x a = by_ring ring_ℚ (a ∷ []) (pneg pnil ⊗ at 0) pnil refl

  -- what a MW of a block makes at them: what it makes of the balance and of the flows
  pub weight-made : (j : ℕ) → signed_by_side (block_at m j).side (unit_price m made (block_at m j).unit)
      ≡ energy *ℚ block_sign m j -ℚ sum_by (λ r. cost r *ℚ block_coefficient m r j) (in_order m t.limits)
  weight-made j =
      ap (signed_by_side (block_at m j).side) (unit_price-by_factors m made (block_at m j).unit ∙ price-made factor)
      ∙ by (block_at m j).side
    where
      over : List Row
      over = in_order m t.limits

      factor : Row → Fraction
      factor r = unit_factor m r (block_at m j).unit

      turned : sum_by (λ r. neg_ℚ (cost r) *ℚ factor r) over ≡ neg_ℚ (whole (pos 1)) *ℚ sum_by (λ r. cost r *ℚ factor r) over
      turned =
          sum_by-same (λ r. neg_ℚ (cost r) *ℚ factor r) (λ r. neg_ℚ (whole (pos 1)) *ℚ (cost r *ℚ factor r)) over
          (λ r. by_ring ring_ℚ (cost r ∷ factor r ∷ []) (pneg (at 0) ⊗ at 1) (pneg pone ⊗ (at 0 ⊗ at 1)) refl)
          ∙ sum_by-times (neg_ℚ (whole (pos 1))) (λ r. cost r *ℚ factor r) over

      negated : sum_by (λ r. cost r *ℚ neg_ℚ (factor r)) over ≡ neg_ℚ (whole (pos 1)) *ℚ sum_by (λ r. cost r *ℚ factor r) over
      negated =
          sum_by-same (λ r. cost r *ℚ neg_ℚ (factor r)) (λ r. neg_ℚ (whole (pos 1)) *ℚ (cost r *ℚ factor r)) over
          (λ r. by_ring ring_ℚ (cost r ∷ factor r ∷ []) (at 0 ⊗ pneg (at 1)) (pneg pone ⊗ (at 0 ⊗ at 1)) refl)
          ∙ sum_by-times (neg_ℚ (whole (pos 1))) (λ r. cost r *ℚ factor r) over

      by : (side : Side) → signed_by_side side (energy +ℚ sum_by (λ r. neg_ℚ (cost r) *ℚ factor r) over)
          ≡ energy *ℚ signed_by_side side (whole (pos 1)) -ℚ sum_by (λ r. cost r *ℚ signed_by_side side (factor r)) over
      by Sell = ap (λ y. energy +ℚ y) turned ∙ by_ring ring_ℚ (energy ∷ sum_by (λ r. cost r *ℚ factor r) over ∷ []) (at 0 ⊕ pneg pone ⊗ at 1) (at 0 ⊗ pone ⊕ pneg (at 1)) refl
      by Buy =
          ap (λ y. neg_ℚ (energy +ℚ y)) turned
          ∙ by_ring ring_ℚ (energy ∷ sum_by (λ r. cost r *ℚ factor r) over ∷ []) (pneg (at 0 ⊕ pneg pone ⊗ at 1)) (at 0 ⊗ pneg pone ⊕ pneg (pneg pone ⊗ at 1)) refl
          ∙ ap (λ y. energy *ℚ neg_ℚ (whole (pos 1)) -ℚ y) (sym negated)

-- what is raised of a difference
pub signed_minus : (side : Side) (a k : Fraction) → signed_by_side side (a -ℚ k) ≡ signed_by_side side a -ℚ k *ℚ signed_by_side side (whole (pos 1))
signed_minus Sell a k = by_ring ring_ℚ (a ∷ k ∷ []) (at 0 ⊕ pneg (at 1)) (at 0 ⊕ pneg (at 1 ⊗ pone)) refl
signed_minus Buy a k = by_ring ring_ℚ (a ∷ k ∷ []) (pneg (at 0 ⊕ pneg (at 1))) (pneg (at 0) ⊕ pneg (at 1 ⊗ pneg pone)) refl

-- ---- the rooms that are taken
-- what is at the name of a unit's room where that is taken, and else 0
abbrev pub at_room : Parts → Taken → (ℕ → Fraction) → ℕ → Fraction
at_room m t c u = kept (takes_room m t.rooms u) (c (room_name m u))

-- a sum over the taken rooms of numbers at one unit
pub sum-rooms_at : (m : Parts) (t : Taken) (c : ℕ → Fraction) (w : ℕ) (x : Fraction) → w < length m.units
    → sum_by (λ u. c (room_name m u) *ℚ at_unit u w x) (rooms_in_order m t.rooms) ≡ at_room m t c w *ℚ x
sum-rooms_at m t c w x lt =
    ap (sum_by (λ u. c (room_name m u) *ℚ at_unit u w x)) (rooms_in_order-places m t.rooms)
    ∙ sum_by-filter (λ u. c (room_name m u) *ℚ at_unit u w x) (takes_room m t.rooms) (places (length m.units))
    ∙ sum_by-same (λ u. kept (takes_room m t.rooms u) (c (room_name m u) *ℚ at_unit u w x)) (λ u. kept (w == u) (at_room m t c u *ℚ x)) (places (length m.units))
    (λ u. by (takes_room m t.rooms u) (w == u) (c (room_name m u)))
    ∙ sum_by-one_place (λ u. at_room m t c u *ℚ x) w (length m.units) lt
  where
    by : (b k : Bool) (y : Fraction) → kept b (y *ℚ (if k then x else nil)) ≡ kept k (kept b y *ℚ x)
    by true true y = refl
    by true false y = by_ring ring_ℚ (y ∷ []) (at 0 ⊗ pnil) pnil refl
    by false true y = by_ring ring_ℚ (x ∷ []) pnil (pnil ⊗ at 0) refl
    by false false y = refl

-- where there are offers, reserve is listed
pub offer_listed_by : (m : Parts) → IsMarket m → (n : ℕ) → n < length m.reserve.offers → m.reserve.listed ≡ true
offer_listed_by m market n lt = by m.reserve.listed refl
  where
    by : (b : Bool) → m.reserve.listed ≡ b → m.reserve.listed ≡ true
    by true e = e
    by false e = let none : length m.reserve.offers ≡ 0 = ap (λ (r : Reserve). length r.offers) (market.reserve.unlisted e) in absurd (Prim.omega (arith, lt, none))

-- ---- the system's rows by what they are of
module _ (m : Parts) (names : NamesApart m) (market : IsMarket m) (t : Taken) where
  abbrev apart : RowsApart m
  apart = rows_apart m names

  abbrev over_all : Taken
  over_all = taken_in_order m t

  abbrev s : System
  s = system_of m t

  pub ordered : AreInOrder m (taken_in_order m t)
  ordered = taken-in_order m apart t

  pub system : IsSystem (system_of m t)
  system = is_system_over m over_all ordered

  no_sum : {X : Type 0} (c : X → Fraction) (k : X → Fraction) (xs : List X) → ((x : X) → Contains xs x → k x ≡ nil) → sum_by (λ x. c x *ℚ k x) xs ≡ nil
  no_sum c k xs each = sum_by-members (λ x. c x *ℚ k x) (λ x. nil) xs (λ x m. ap (λ y. c x *ℚ y) (each x m) ∙ by_ring ring_ℚ (c x ∷ []) (at 0 ⊗ pnil) pnil refl) ∙ sum_by-nil xs

  no_need : (c : ℕ → Fraction) (w : ℕ) → (m.reserve.listed ≡ true → s.coefficient (need_name m) w ≡ nil) → kept m.reserve.listed (c (need_name m) *ℚ s.coefficient (need_name m) w) ≡ nil
  no_need c w none = kept_nil m.reserve.listed (λ e. ap (λ y. c (need_name m) *ℚ y) (none e) ∙ by_ring ring_ℚ (c (need_name m) ∷ []) (at 0 ⊗ pnil) pnil refl)

  -- a combination of the rows, at the column of a block
  pub rows-at : (c : ℕ → Fraction) (j : ℕ) → j < length m.blocks → sum_by (λ r. c r *ℚ s.coefficient r j) s.rows
      ≡ (c (balance_name m) *ℚ block_sign m j +ℚ sum_by (λ r. c (row_name m r) *ℚ block_coefficient m r j) (in_order m t.limits)) +ℚ at_room m t c (block_at m j).unit *ℚ block_sign m j
  rows-at c j lt = sum-rows m over_all (λ r. c r *ℚ s.coefficient r j)
      ∙ ap₂ ◌+ℚ◌
      (ap₂ ◌+ℚ◌
      (ap (λ y. c (balance_name m) *ℚ y) (coefficient-at m over_all ordered Balance (Block j) tt lt))
      (sum_by-members (λ r. c (row_name m r) *ℚ s.coefficient (row_name m r) j) (λ r. c (row_name m r) *ℚ block_coefficient m r j) (in_order m t.limits)
      (λ r k. ap (λ y. c (row_name m r) *ℚ y) (coefficient-at m over_all ordered (Limit r) (Block j) k lt))))
      (ap₂ ◌+ℚ◌
      (no_need c j (λ e. coefficient-at m over_all ordered Need (Block j) e lt))
      (sum_by-members (λ u. c (room_name m u) *ℚ s.coefficient (room_name m u) j) (λ u. c (room_name m u) *ℚ at_unit u (block_at m j).unit (block_sign m j)) (rooms_in_order m t.rooms)
      (λ u k. ap (λ y. c (room_name m u) *ℚ y) (coefficient-at m over_all ordered (Room u) (Block j) k lt))
      ∙ sum-rooms_at m t c (block_at m j).unit (block_sign m j) (block_unit-in m market j lt))
      ∙ by_ring ring_ℚ ((at_room m t c (block_at m j).unit *ℚ block_sign m j) ∷ []) (pnil ⊕ at 0) (at 0) refl)

  -- at the column of an offer
  pub rows-offer : (c : ℕ → Fraction) (n : ℕ) → n < length m.reserve.offers → sum_by (λ r. c r *ℚ s.coefficient r (offer_name m n)) s.rows
      ≡ c (need_name m) +ℚ at_room m t c (offer_at m n).unit
  rows-offer c n lt = sum-rows m over_all (λ r. c r *ℚ s.coefficient r (offer_name m n))
      ∙ ap₂ ◌+ℚ◌
      (ap₂ ◌+ℚ◌
      (ap (λ y. c (balance_name m) *ℚ y) (coefficient-at m over_all ordered Balance (Offer n) tt lt))
      (no_sum (λ r. c (row_name m r)) (λ r. s.coefficient (row_name m r) (offer_name m n)) (in_order m t.limits) (λ r k. coefficient-at m over_all ordered (Limit r) (Offer n) k lt)))
      (ap₂ ◌+ℚ◌
      (ap (λ (b : Bool). kept b (c (need_name m) *ℚ s.coefficient (need_name m) (offer_name m n))) listed
      ∙ ap (λ y. c (need_name m) *ℚ y) (coefficient-at m over_all ordered Need (Offer n) listed lt))
      (sum_by-members (λ u. c (room_name m u) *ℚ s.coefficient (room_name m u) (offer_name m n)) (λ u. c (room_name m u) *ℚ at_unit u (offer_at m n).unit (whole (pos 1))) (rooms_in_order m t.rooms)
      (λ u k. ap (λ y. c (room_name m u) *ℚ y) (coefficient-at m over_all ordered (Room u) (Offer n) k lt))
      ∙ sum-rooms_at m t c (offer_at m n).unit (whole (pos 1)) (offer_unit-in m market n lt)))
      ∙ by_ring ring_ℚ (c (balance_name m) ∷ c (need_name m) ∷ at_room m t c (offer_at m n).unit ∷ []) ((at 0 ⊗ pnil ⊕ pnil) ⊕ (at 1 ⊗ pone ⊕ at 2 ⊗ pone)) (at 1 ⊕ at 2) refl
    where
      listed : m.reserve.listed ≡ true
      listed = offer_listed_by m market n lt

  -- and at the columns of a soft row: of its own alone
  own_row : (c : ℕ → Fraction) (r : Row) → Contains (in_order m t.limits) r → (x : Fraction) (w : ℕ) → s.coefficient (balance_name m) w ≡ nil
      → ((q : Row) → Contains (in_order m t.limits) q → s.coefficient (row_name m q) w ≡ at_row q r x) → (m.reserve.listed ≡ true → s.coefficient (need_name m) w ≡ nil)
      → ((u : ℕ) → Contains (rooms_in_order m t.rooms) u → s.coefficient (room_name m u) w ≡ nil) → sum_by (λ v. c v *ℚ s.coefficient v w) s.rows ≡ c (row_name m r) *ℚ x
  own_row c r k x w balanced at_rows unneeded no_room = sum-rows m over_all (λ v. c v *ℚ s.coefficient v w)
      ∙ ap₂ ◌+ℚ◌
      (ap₂ ◌+ℚ◌
      (ap (λ y. c (balance_name m) *ℚ y) balanced)
      (sum_by-alone (λ q. c (row_name m q) *ℚ s.coefficient (row_name m q) w) r (in_order m t.limits) (ordered-distinct m (in_order m t.limits) ordered.limits) k
      (λ q l n. ap (λ y. c (row_name m q) *ℚ y) (at_rows q l ∙ ap (λ (b : Bool). if b then x else nil) (same_row-not q r n)) ∙ by_ring ring_ℚ (c (row_name m q) ∷ []) (at 0 ⊗ pnil) pnil refl)
      ∙ ap (λ y. c (row_name m r) *ℚ y) (at_rows r k ∙ ap (λ (b : Bool). if b then x else nil) (same_row-itself r))))
      (ap₂ ◌+ℚ◌ (no_need c w unneeded) (no_sum (λ u. c (room_name m u)) (λ u. s.coefficient (room_name m u) w) (rooms_in_order m t.rooms) no_room))
      ∙ by_ring ring_ℚ (c (balance_name m) ∷ c (row_name m r) ∷ x ∷ []) ((at 0 ⊗ pnil ⊕ at 1 ⊗ at 2) ⊕ (pnil ⊕ pnil)) (at 1 ⊗ at 2) refl

  module _ (c : ℕ → Fraction) (r : Row) (k : Contains (in_order m t.limits) r) (e : is_soft m r ≡ true) where
    pub rows-over : sum_by (λ v. c v *ℚ s.coefficient v (over_name m r)) s.rows ≡ c (row_name m r) *ℚ neg_ℚ (whole (pos 1))
    rows-over = own_row c r k (neg_ℚ (whole (pos 1))) (over_name m r)
        (coefficient-at m over_all ordered Balance (Over r) tt (k, e)) (λ q l. coefficient-at m over_all ordered (Limit q) (Over r) l (k, e))
        (λ l. coefficient-at m over_all ordered Need (Over r) l (k, e)) (λ u l. coefficient-at m over_all ordered (Room u) (Over r) l (k, e))

    pub rows-under : sum_by (λ v. c v *ℚ s.coefficient v (under_name m r)) s.rows ≡ c (row_name m r) *ℚ whole (pos 1)
    rows-under = own_row c r k (whole (pos 1)) (under_name m r)
        (coefficient-at m over_all ordered Balance (Under r) tt (k, e)) (λ q l. coefficient-at m over_all ordered (Limit q) (Under r) l (k, e))
        (λ l. coefficient-at m over_all ordered Need (Under r) l (k, e)) (λ u l. coefficient-at m over_all ordered (Room u) (Under r) l (k, e))

  module _ (h : Choice) (choice : IsChoice (system_of m t) h) where
    abbrev duals : Duals Fraction
    duals = choice_duals m t h

    priced : (j : ℕ) → Contains s.columns j → s.price j ≡ reduced s h j +ℚ sum_by (λ r. reduced s h r *ℚ s.coefficient r j) s.rows
    priced j c = price_by_rows s system (sum-variables m over_all) h choice j c

    -- a block's reduced price is its value less what it raises at its unit's price, less what a MW on the unit's room costs
    pub reduced-block : (j : ℕ) → j < length m.blocks
        → reduced s h j ≡ block_value m j +ℚ signed_by_side (block_at m j).side (unit_price m duals (block_at m j).unit -ℚ at_room m t (reduced s h) (block_at m j).unit)
    reduced-block j lt =
        let costs : Fraction = sum_by (λ r. reduced s h (row_name m r) *ℚ block_coefficient m r j) (in_order m t.limits) in
        let room_cost : Fraction = at_room m t (reduced s h) (block_at m j).unit in
        by_ring1 ring_ℚ (block_value m j ∷ reduced s h j ∷ reduced s h (balance_name m) ∷ block_sign m j ∷ costs ∷ room_cost ∷ []) (at 1) (at 0 ⊕ ((pneg (at 2) ⊗ at 3 ⊕ pneg (at 4)) ⊕ pneg (at 5 ⊗ at 3)))
        (pneg pone) (at 0) (at 1 ⊕ ((at 2 ⊗ at 3 ⊕ at 4) ⊕ at 5 ⊗ at 3))
        (sym (price-at m over_all ordered (Block j) lt) ∙ priced j (column_in m over_all j lt) ∙ ap (λ y. reduced s h j +ℚ y) (rows-at (reduced s h) j lt)) refl
        ∙ ap (λ y. block_value m j +ℚ (y -ℚ room_cost *ℚ block_sign m j)) (sym (weight-made m names (reduced s h) t j))
        ∙ ap (λ y. block_value m j +ℚ y) (sym (signed_minus (block_at m j).side (unit_price m duals (block_at m j).unit) room_cost))

    -- an offer's: the price of reserve, less its own and what a MW on the unit's room costs
    pub reduced-offer : (n : ℕ) → n < length m.reserve.offers
        → reduced s h (offer_name m n) ≡ (neg_ℚ (reduced s h (need_name m)) -ℚ at_room m t (reduced s h) (offer_at m n).unit) -ℚ offer_price m n
    reduced-offer n lt =
        by_ring1 ring_ℚ (reduced s h (offer_name m n) ∷ reduced s h (need_name m) ∷ at_room m t (reduced s h) (offer_at m n).unit ∷ offer_price m n ∷ [])
        (at 0) ((pneg (at 1) ⊕ pneg (at 2)) ⊕ pneg (at 3)) (pneg pone) (pneg (at 3)) (at 0 ⊕ (at 1 ⊕ at 2))
        (sym (price-at m over_all ordered (Offer n) lt) ∙ priced (offer_name m n) (offer_in m over_all n lt) ∙ ap (λ y. reduced s h (offer_name m n) +ℚ y) (rows-offer (reduced s h) n lt)) refl

    -- those of the columns of a soft row are what a MW costs on its flow, or the opposite, less the penalty
    module _ (r : Row) (k : Contains (in_order m t.limits) r) (e : is_soft m r ≡ true) where
      reduced-over : reduced s h (over_name m r) ≡ reduced s h (row_name m r) -ℚ penalty m r
      reduced-over =
          by_ring1 ring_ℚ (reduced s h (over_name m r) ∷ reduced s h (row_name m r) ∷ penalty m r ∷ []) (at 0) (at 1 ⊕ pneg (at 2)) (pneg pone) (pneg (at 2)) (at 0 ⊕ at 1 ⊗ pneg pone)
          (sym (price-at m over_all ordered (Over r) (k, e))
          ∙ priced (over_name m r) (column_listed m over_all (Over r) (excess_listed m over_all r k e).0)
          ∙ ap (λ y. reduced s h (over_name m r) +ℚ y) (rows-over (reduced s h) r k e)) refl

      reduced-under : reduced s h (under_name m r) ≡ neg_ℚ (reduced s h (row_name m r)) -ℚ penalty m r
      reduced-under =
          by_ring1 ring_ℚ (reduced s h (under_name m r) ∷ reduced s h (row_name m r) ∷ penalty m r ∷ []) (at 0) (pneg (at 1) ⊕ pneg (at 2)) (pneg pone) (pneg (at 2)) (at 0 ⊕ at 1 ⊗ pone)
          (sym (price-at m over_all ordered (Under r) (k, e))
          ∙ priced (under_name m r) (column_listed m over_all (Under r) (excess_listed m over_all r k e).1)
          ∙ ap (λ y. reduced s h (under_name m r) +ℚ y) (rows-under (reduced s h) r k e)) refl

    -- ---- a solved choice
    module _ (are : AreTaken m t) (solved : IsSolved (system_of m t) (state_at (system_of m t) h)) where
      abbrev dispatch : Dispatch
      dispatch = choice_dispatch m t h

      -- the dispatch is best for what is taken
      pub solved_best : BestFor m t dispatch
      solved_best = record {
        feasible = dispatch_feasible m apart t market (value s h) solved.best.meets are.limits.rows are.rooms solved.best.within;
        best = λ y f. ≤ℚ_trans (welfare_for m t.limits y) (objective s (value s h)) (welfare_for m t.limits dispatch)
            (subst (λ x. x ≤ℚ objective s (value s h)) (point_welfare m apart t market are.limits y)
            (solved.best.best (point_of m apart t market y) (point_meets m apart t market y) (point_within m apart t market y f)))
            (dispatch_welfare m apart t market (value s h) solved.best.meets are.limits solved.best.within);
      }

      -- a variable whose reduced price is above 0 stands at its high bound, and one below 0 at its low bound
      stands_high : (w : ℕ) → Contains s.variables w → nil <ℚ reduced s h w → value s h w ≡ s.high w
      stands_high w c l = elim (≤ℚ-or-<ℚ (s.high w) (value s h w)) [
        | inl p ↦ ≤ℚ_antisym (value s h w) (s.high w) (solved.best.within.high w c) p
        | inr q ↦ absurd (<ℚ-not-≤ℚ nil (reduced s h w) l (solved.rises w c q))
      ]

      stands_low : (w : ℕ) → Contains s.variables w → reduced s h w <ℚ nil → value s h w ≡ s.low w
      stands_low w c l = elim (≤ℚ-or-<ℚ (value s h w) (s.low w)) [
        | inl p ↦ ≤ℚ_antisym (value s h w) (s.low w) p (solved.best.within.low w c)
        | inr q ↦ absurd (<ℚ-not-≤ℚ (reduced s h w) nil l (solved.falls w c q))
      ]

      -- gains and losses are signs of the reduced price
      gain_sign : (side : Side) (p b r : Fraction) → r ≡ neg_ℚ (signed_by_side side p) +ℚ signed_by_side side b → Gains side p b → nil <ℚ r
      gain_sign Sell p b r e l = not-≤ℚ r nil (λ n. <ℚ-not-≤ℚ p b l (by_le1 (p ∷ b ∷ []) (at 1) (at 0) pone (pneg (at 0) ⊕ at 1) pnil NonNeg-one (subst (λ t. t ≤ℚ nil) e n) refl))
      gain_sign Buy p b r e l = not-≤ℚ r nil (λ n. <ℚ-not-≤ℚ b p l (by_le1 (p ∷ b ∷ []) (at 0) (at 1) pone (pneg (pneg (at 0)) ⊕ pneg (at 1)) pnil NonNeg-one (subst (λ t. t ≤ℚ nil) e n) refl))

      loss_sign : (side : Side) (p b r : Fraction) → r ≡ neg_ℚ (signed_by_side side p) +ℚ signed_by_side side b → Loses side p b → r <ℚ nil
      loss_sign Sell p b r e l = not-≤ℚ nil r (λ n. <ℚ-not-≤ℚ b p l (by_le1 (p ∷ b ∷ []) (at 0) (at 1) pone pnil (pneg (at 0) ⊕ at 1) NonNeg-one (subst (λ t. nil ≤ℚ t) e n) refl))
      loss_sign Buy p b r e l = not-≤ℚ nil r (λ n. <ℚ-not-≤ℚ p b l (by_le1 (p ∷ b ∷ []) (at 1) (at 0) pone pnil (pneg (pneg (at 0)) ⊕ pneg (at 1)) NonNeg-one (subst (λ t. nil ≤ℚ t) e n) refl))

      -- ---- what blocks and offers are accepted
      block_here : (j : ℕ) → j < length m.blocks → Contains s.variables j
      block_here j lt = variable_in m over_all (Block j) lt

      offer_here : (n : ℕ) → n < length m.reserve.offers → Contains s.variables (offer_name m n)
      offer_here n lt = variable_in m over_all (Offer n) lt

      taken : (j : ℕ) → j < length m.blocks → accepted dispatch j ≡ value s h j
      taken j lt = dispatch_at-accepted m apart t market (value s h) j lt

      taken_offer : (n : ℕ) → n < length m.reserve.offers → reserved dispatch n ≡ value s h (offer_name m n)
      taken_offer n lt = dispatch_at-reserved m apart t market (value s h) n lt

      block_least : (j : ℕ) → j < length m.blocks → nil ≤ℚ accepted dispatch j
      block_least j lt = subst₂ ◌≤ℚ◌ (low-at m over_all ordered (Block j) lt) (sym (taken j lt)) (solved.best.within.low j (block_here j lt))

      block_most : (j : ℕ) → j < length m.blocks → accepted dispatch j ≤ℚ quantity m j
      block_most j lt = subst₂ ◌≤ℚ◌ (sym (taken j lt)) (high-at m over_all ordered (Block j) lt) (solved.best.within.high j (block_here j lt))

      offer_least : (n : ℕ) → n < length m.reserve.offers → nil ≤ℚ reserved dispatch n
      offer_least n lt = subst₂ ◌≤ℚ◌ (low-at m over_all ordered (Offer n) lt) (sym (taken_offer n lt)) (solved.best.within.low (offer_name m n) (offer_here n lt))

      offer_most : (n : ℕ) → n < length m.reserve.offers → reserved dispatch n ≤ℚ reserve_quantity m n
      offer_most n lt = subst₂ ◌≤ℚ◌ (sym (taken_offer n lt)) (high-at m over_all ordered (Offer n) lt) (solved.best.within.high (offer_name m n) (offer_here n lt))

      -- ---- rooms and the need
      in_blocks_of : (u j : ℕ) → Contains (blocks_of m u) j → j < length m.blocks
      in_blocks_of u j c = Contains-from_places (length m.blocks) j (Contains-from_filter (λ i. (block_at m i).unit == u) (places (length m.blocks)) j c).0

      in_offers_of : (u n : ℕ) → Contains (offers_of m u) n → n < length m.reserve.offers
      in_offers_of u n c = Contains-from_places (length m.reserve.offers) n (Contains-from_filter (λ i. (offer_at m i).unit == u) (offer_places m) n c).0

      room_value : (u : ℕ) → Contains (rooms_in_order m t.rooms) u → room_used m dispatch u ≡ value s h (room_name m u)
      room_value u c = dispatch_room m apart t market (value s h) solved.best.meets u c

      need_value : m.reserve.listed ≡ true → reserve m dispatch ≡ value s h (need_name m)
      need_value e = dispatch_reserve m apart t market (value s h) solved.best.meets e

      abbrev room_cost : ℕ → Fraction
      room_cost u = at_room m t (reduced s h) u

      abbrev need_price : Fraction
      need_price = neg_ℚ (reduced s h (need_name m))

      is_taken : (u : ℕ) → u < length m.units → takes_room m t.rooms u ≡ true → Contains (rooms_in_order m t.rooms) u
      is_taken u lt e = subst (λ ws. Contains ws u) (sym (rooms_in_order-places m t.rooms)) (Contains-filter (takes_room m t.rooms) (places (length m.units)) u (Contains-places (length m.units) u lt) e)

      low_room : (u : ℕ) → u < length m.units → room_cost u <ℚ nil → Contains (rooms_in_order m t.rooms) u × (value s h (room_name m u) ≡ neg_ℚ (whole (unit_at m u).down))
      low_room u lt = by (takes_room m t.rooms u) refl
        where
          by : (b : Bool) → takes_room m t.rooms u ≡ b → kept b (reduced s h (room_name m u)) <ℚ nil → Contains (rooms_in_order m t.rooms) u × (value s h (room_name m u) ≡ neg_ℚ (whole (unit_at m u).down))
          by true e l = let c = is_taken u lt e in (c, stands_low (room_name m u) (variable_in m over_all (Room u) c) l ∙ low-at m over_all ordered (Room u) c)
          by false e l = absurd (<ℚ_irrefl nil l)

      high_room : (u : ℕ) → u < length m.units → nil <ℚ room_cost u → Contains (rooms_in_order m t.rooms) u × (value s h (room_name m u) ≡ room m u)
      high_room u lt = by (takes_room m t.rooms u) refl
        where
          by : (b : Bool) → takes_room m t.rooms u ≡ b → nil <ℚ kept b (reduced s h (room_name m u)) → Contains (rooms_in_order m t.rooms) u × (value s h (room_name m u) ≡ room m u)
          by true e l = let c = is_taken u lt e in (c, stands_high (room_name m u) (variable_in m over_all (Room u) c) l ∙ high-at m over_all ordered (Room u) c)
          by false e l = absurd (<ℚ_irrefl nil l)

      -- where a MW on a unit's room costs less than 0, all is bought that may be, and nothing is sold or reserved
      module _ (u : ℕ) (lt : u < length m.units) (l : room_cost u <ℚ nil) where
        low_in_all : sum_by (raised_by m dispatch) (blocks_of m u) +ℚ sum_by (reserved dispatch) (offers_of m u) ≡ neg_ℚ (whole (unit_at m u).down)
        low_in_all = let r = low_room u lt l in sym (room_used-by_parts m dispatch u) ∙ room_value u r.0 ∙ r.1

        low_blocks : (j : ℕ) → Contains (blocks_of m u) j → accepted dispatch j ≡ where_low (block_at m j).side (quantity m j)
        low_blocks j c = raised-low (block_at m j).side (quantity m j) (accepted dispatch j)
            (room_low-blocks (blocks_of m u) (offers_of m u) (raised_by m dispatch) (λ i. where_low (block_at m i).side (quantity m i)) (reserved dispatch) (whole (unit_at m u).down)
            (λ i k. raised-least (block_at m i).side (quantity m i) (accepted dispatch i) (block_least i (in_blocks_of u i k)) (block_most i (in_blocks_of u i k)))
            (λ n k. offer_least n (in_offers_of u n k)) (buys_fit m market u lt) low_in_all j c)

        low_offers : (n : ℕ) → Contains (offers_of m u) n → reserved dispatch n ≡ nil
        low_offers n c = sym
            (room_low-offers (blocks_of m u) (offers_of m u) (raised_by m dispatch) (λ i. where_low (block_at m i).side (quantity m i)) (reserved dispatch) (whole (unit_at m u).down)
            (λ i k. raised-least (block_at m i).side (quantity m i) (accepted dispatch i) (block_least i (in_blocks_of u i k)) (block_most i (in_blocks_of u i k)))
            (λ i k. offer_least i (in_offers_of u i k)) (buys_fit m market u lt) low_in_all n c)

      -- ---- blocks and offers are supported
      block_supported : (j : ℕ) → j < length m.blocks → BlockSupported m dispatch duals j
      block_supported j lt = record {
        full = λ gains. block_clamped-full (block_at m j).side (price m j) (unit_price m duals (block_at m j).unit) (room_cost (block_at m j).unit) (quantity m j) (accepted dispatch j) full_by empty_by low_by (subst (Gains (block_at m j).side (price m j)) worth_is gains);
        empty = λ loses. block_clamped-empty (block_at m j).side (price m j) (unit_price m duals (block_at m j).unit) (room_cost (block_at m j).unit) (quantity m j) (accepted dispatch j) full_by empty_by low_by (subst (Loses (block_at m j).side (price m j)) worth_is loses);
      }
        where
          worth_is : energy_worth m duals (block_at m j).unit ≡ unit_price m duals (block_at m j).unit -ℚ part_above (room_cost (block_at m j).unit)
          worth_is = ap (λ y. unit_price m duals (block_at m j).unit -ℚ y) (room_price-made m market (reduced s h) t (block_at m j).unit)

          full_by : Gains (block_at m j).side (price m j) (unit_price m duals (block_at m j).unit -ℚ room_cost (block_at m j).unit) → accepted dispatch j ≡ quantity m j
          full_by g = taken j lt
              ∙ stands_high j (block_here j lt) (gain_sign (block_at m j).side (price m j) (unit_price m duals (block_at m j).unit -ℚ room_cost (block_at m j).unit) (reduced s h j) (reduced-block j lt) g)
              ∙ high-at m over_all ordered (Block j) lt

          empty_by : Loses (block_at m j).side (price m j) (unit_price m duals (block_at m j).unit -ℚ room_cost (block_at m j).unit) → accepted dispatch j ≡ nil
          empty_by g = taken j lt
              ∙ stands_low j (block_here j lt) (loss_sign (block_at m j).side (price m j) (unit_price m duals (block_at m j).unit -ℚ room_cost (block_at m j).unit) (reduced s h j) (reduced-block j lt) g)
              ∙ low-at m over_all ordered (Block j) lt

          low_by : room_cost (block_at m j).unit <ℚ nil → accepted dispatch j ≡ where_low (block_at m j).side (quantity m j)
          low_by l = low_blocks (block_at m j).unit (block_unit-in m market j lt) l j
              (Contains-filter (λ i. (block_at m i).unit == (block_at m j).unit) (places (length m.blocks)) j (Contains-places (length m.blocks) j lt) (same_itself (block_at m j).unit))

      -- where a MW on the need costs more than 0, all that is offered is accepted
      all_reserved : m.reserve.listed ≡ true → need_price <ℚ nil → (n : ℕ) → n < length m.reserve.offers → reserved dispatch n ≡ reserve_quantity m n
      all_reserved e l n lt =
          all_reach (reserved dispatch) (reserve_quantity m) (offer_places m) (λ i c. offer_most i (Contains-from_places (length m.reserve.offers) i c))
          (subst₂ ◌≤ℚ◌ (offered-by_offers m)
          (sym (stands_high (need_name m) (variable_in m over_all Need e) (opposite_below (reduced s h (need_name m)) l) ∙ high-at m over_all ordered Need e) ∙ sym (need_value e) ∙ reserve-by_offers m dispatch)
          (offered_most m)) n (Contains-places (length m.reserve.offers) n lt)

      offer_supported : (n : ℕ) → n < length m.reserve.offers → OfferSupported m dispatch duals n
      offer_supported n lt = record {
        full = λ gains. offer_clamped-full (offer_price m n) need_price (room_cost (offer_at m n).unit) (reserve_quantity m n) (reserved dispatch n) full_by empty_by (λ l. all_reserved listed l n lt) low_by
            (subst (λ y. offer_price m n <ℚ y) worth_is gains);
        empty = λ loses. offer_clamped-empty (offer_price m n) need_price (room_cost (offer_at m n).unit) (reserve_quantity m n) (reserved dispatch n) full_by empty_by (λ l. all_reserved listed l n lt) low_by
            (subst (λ y. y <ℚ offer_price m n) worth_is loses);
      }
        where
          listed : m.reserve.listed ≡ true
          listed = offer_listed_by m market n lt

          worth_is : reserve_worth m duals (offer_at m n).unit ≡ part_above need_price -ℚ part_above (room_cost (offer_at m n).unit)
          worth_is = ap₂ ◌-ℚ◌ (ap (λ (b : Bool). if b then part_above need_price else nil) listed) (room_price-made m market (reduced s h) t (offer_at m n).unit)

          full_by : offer_price m n <ℚ (need_price -ℚ room_cost (offer_at m n).unit) → reserved dispatch n ≡ reserve_quantity m n
          full_by g = taken_offer n lt
              ∙ stands_high (offer_name m n) (offer_here n lt)
              (subst (λ y. nil <ℚ y) (sym (reduced-offer n lt)) (less_above (need_price -ℚ room_cost (offer_at m n).unit) (offer_price m n) g))
              ∙ high-at m over_all ordered (Offer n) lt

          empty_by : (need_price -ℚ room_cost (offer_at m n).unit) <ℚ offer_price m n → reserved dispatch n ≡ nil
          empty_by g = taken_offer n lt
              ∙ stands_low (offer_name m n) (offer_here n lt)
              (subst (λ y. y <ℚ nil) (sym (reduced-offer n lt)) (less_below (need_price -ℚ room_cost (offer_at m n).unit) (offer_price m n) g))
              ∙ low-at m over_all ordered (Offer n) lt

          low_by : room_cost (offer_at m n).unit <ℚ nil → reserved dispatch n ≡ nil
          low_by l = low_offers (offer_at m n).unit (offer_unit-in m market n lt) l n
              (Contains-filter (λ i. (offer_at m i).unit == (offer_at m n).unit) (offer_places m) n (Contains-places (length m.reserve.offers) n lt) (same_itself (offer_at m n).unit))

      -- ---- so are the need and the rooms
      need_supported : NeedSupported m dispatch duals
      need_supported = record { sign = signed m.reserve.listed; met = met_by m.reserve.listed refl }
        where
          signed : (b : Bool) → nil ≤ℚ (if b then part_above need_price else nil)
          signed true = (part_least need_price).0
          signed false = ≤ℚ_refl nil

          met_by : (b : Bool) → m.reserve.listed ≡ b → nil <ℚ (if b then part_above need_price else nil) → reserve m dispatch ≡ reserve_need m
          met_by true e l =
              need_value e
              ∙ stands_low (need_name m) (variable_in m over_all Need e) (opposite_above (reduced s h (need_name m)) (part_positive need_price l))
              ∙ low-at m over_all ordered Need e
          met_by false e l = absurd (<ℚ_irrefl nil l)

      room_supported : (u : ℕ) → Contains (reserve_units m) u → RoomSupported m dispatch duals u
      room_supported u c = record {
        sign = subst (λ y. nil ≤ℚ y) (sym price_is) (part_least (room_cost u)).0;
        used_up = λ l. let r = high_room u (listed-inside m u c) (part_positive (room_cost u) (subst (λ y. nil <ℚ y) price_is l)) in
            room_value u r.0 ∙ r.1;
      }
        where
          price_is : room_price m duals u ≡ part_above (room_cost u)
          price_is = room_price-made m market (reduced s h) t u

      abbrev costs : Row → Fraction
      costs r = reduced s h (row_name m r)

      -- ---- a row in hand
      module _ (r : Row) (k : Contains (in_order m t.limits) r) where
        added : Fraction
        added = flow m (empty m) r +ℚ value s h (row_name m r)

        abbrev over : Fraction
        over = over_in m (value s h) r

        abbrev under : Fraction
        under = under_in m (value s h) r

        within : Within (limit m r) added
        unfolding added
        within = added_within m apart t market (value s h) solved.best.meets solved.best.within r k

        flows : flow m dispatch r ≡ added +ℚ (over -ℚ under)
        unfolding added
        flows = dispatch_flow m apart t market (value s h) solved.best.meets r k

        -- what the blocks add goes to the limit on the side that a MW costs
        upper : nil <ℚ costs r → added ≡ limit m r
        unfolding added
        upper l =
            ap (λ y. flow m (empty m) r +ℚ y) (stands_high (row_name m r) (variable_in m over_all (Limit r) k) l ∙ high-at m over_all ordered (Limit r) k)
            ∙ by_ring ring_ℚ (flow m (empty m) r ∷ limit m r ∷ []) (at 0 ⊕ (at 1 ⊕ pneg (at 0))) (at 1) refl

        lower : nil <ℚ neg_ℚ (costs r) → neg_ℚ added ≡ limit m r
        unfolding added
        lower l =
            ap (λ y. neg_ℚ (flow m (empty m) r +ℚ y)) (stands_low (row_name m r) (variable_in m over_all (Limit r) k) (opposite_above (costs r) l) ∙ low-at m over_all ordered (Limit r) k)
            ∙ by_ring ring_ℚ (flow m (empty m) r ∷ limit m r ∷ []) (pneg (at 0 ⊕ (pneg (at 1) ⊕ pneg (at 0)))) (at 1) refl

        -- a column of it stands at 0 where that is below the penalty, and at the most where it is above
        no_over : costs r <ℚ penalty m r → over ≡ nil
        no_over l = kept_nil (is_soft m r) (λ e. stands_low (over_name m r) (variable_in m over_all (Over r) (k, e))
            (subst (λ y. y <ℚ nil) (sym (reduced-over r k e)) (less_below (costs r) (penalty m r) l)) ∙ low-at m over_all ordered (Over r) (k, e))

        no_under : neg_ℚ (costs r) <ℚ penalty m r → under ≡ nil
        no_under l = kept_nil (is_soft m r) (λ e. stands_low (under_name m r) (variable_in m over_all (Under r) (k, e))
            (subst (λ y. y <ℚ nil) (sym (reduced-under r k e)) (less_below (neg_ℚ (costs r)) (penalty m r) l)) ∙ low-at m over_all ordered (Under r) (k, e))

        all_over : penalty m r <ℚ costs r → over ≡ most_excess m r
        all_over l = kept_most m market r (λ e. stands_high (over_name m r) (variable_in m over_all (Over r) (k, e))
            (subst (λ y. nil <ℚ y) (sym (reduced-over r k e)) (less_above (costs r) (penalty m r) l)) ∙ high-at m over_all ordered (Over r) (k, e))

        all_under : penalty m r <ℚ neg_ℚ (costs r) → under ≡ most_excess m r
        all_under l = kept_most m market r (λ e. stands_high (under_name m r) (variable_in m over_all (Under r) (k, e))
            (subst (λ y. nil <ℚ y) (sym (reduced-under r k e)) (less_above (neg_ℚ (costs r)) (penalty m r) l)) ∙ high-at m over_all ordered (Under r) (k, e))

        least : (nil ≤ℚ over) × (nil ≤ℚ under)
        least = (
          (over_between m apart t market (value s h) solved.best.meets solved.best.within r k).0,
          (under_between m apart t market (value s h) solved.best.meets solved.best.within r k).0,
        )

        taken_up : SideSupported m r (up_by (sign_of (costs r)) (costs r)) (flow m dispatch r)
        taken_up = side_stands m r (up_by (sign_of (costs r)) (costs r)) (costs r) (flow m dispatch r) added over under (penalty_least m market r) flows within.below
            least.0 least.1 (up_sign (costs r)) (up_most (costs r)) (up_is (costs r)) upper no_over all_over no_under

        taken_down : SideSupported m r (down_by (sign_of (costs r)) (costs r)) (neg_ℚ (flow m dispatch r))
        taken_down = side_stands m r (down_by (sign_of (costs r)) (costs r)) (neg_ℚ (costs r)) (neg_ℚ (flow m dispatch r)) (neg_ℚ added) under over (penalty_least m market r)
            (ap neg_ℚ flows ∙ by_ring ring_ℚ (added ∷ over ∷ under ∷ []) (pneg (at 0 ⊕ (at 1 ⊕ pneg (at 2)))) (pneg (at 0) ⊕ (at 2 ⊕ pneg (at 1))) refl)
            (by_le1 (added ∷ limit m r ∷ []) (pneg (at 0)) (at 1) pone (pneg (at 1)) (at 0) NonNeg-one within.above refl)
            least.1 least.0 (down_sign (costs r)) (down_most (costs r)) (down_is (costs r)) lower no_under all_under
            (λ l. no_over (subst (λ y. y <ℚ penalty m r) (by_ring ring_ℚ (costs r ∷ []) (pneg (pneg (at 0))) (at 0) refl) l))

      row_supported : (r : Row) → Contains (rows m) r → Contains t.limits r ⊎ Within (limit m r) (flow m dispatch r) → RowSupported m dispatch duals r
      row_supported r c known = by (is_in t.limits r) refl known
        where
          up-is : (b : Bool) → is_in t.limits r ≡ b → up_of m duals r ≡ (if b then up_by (sign_of (costs r)) (costs r) else nil)
          up-is b e = up-made m names (reduced s h) t r c ∙ ap (λ (y : Bool). if y then up_by (sign_of (costs r)) (costs r) else nil) e

          down-is : (b : Bool) → is_in t.limits r ≡ b → down_of m duals r ≡ (if b then down_by (sign_of (costs r)) (costs r) else nil)
          down-is b e = down-made m names (reduced s h) t r c ∙ ap (λ (y : Bool). if y then down_by (sign_of (costs r)) (costs r) else nil) e

          by : (b : Bool) → is_in t.limits r ≡ b → Contains t.limits r ⊎ Within (limit m r) (flow m dispatch r) → RowSupported m dispatch duals r
          by true e known =
              let here : Contains (in_order m t.limits) r = in_order-in m t.limits r c (is_in-from t.limits r e) in
              record {
                up = subst (λ y. SideSupported m r y (flow m dispatch r)) (sym (up-is true e)) (taken_up r here);
                down = subst (λ y. SideSupported m r y (neg_ℚ (flow m dispatch r))) (sym (down-is true e)) (taken_down r here);
              }
          by false e (inl here) = let wrong : false ≡ true = sym e ∙ is_in-in t.limits r here in absurd cc
          by false e (inr within) = record {
            up = side_unpriced m r (up_of m duals r) (flow m dispatch r) (penalty_least m market r) within.below (up-is false e);
            down = side_unpriced m r (down_of m duals r) (neg_ℚ (flow m dispatch r)) (penalty_least m market r)
                (by_le1 (flow m dispatch r ∷ limit m r ∷ []) (pneg (at 0)) (at 1) pone (pneg (at 1)) (at 0) NonNeg-one within.above refl) (down-is false e);
          }

      -- the duals support it where other rows' limits are kept, and are proper
      pub solved_supports : SupportsFor m t.limits dispatch duals
      solved_supports = record { blocks = block_supported; rows = λ r c. row_supported r c.0 c.1; offers = offer_supported; need = need_supported; rooms = room_supported }

      pub solved_proper : ProperDuals m duals
      solved_proper = proper-made m names (reduced s h) t market

      -- a block whose unit's room is not taken costs nothing on it
      pub solved_block : (j : ℕ) → j < length m.blocks → ¬ (Contains t.rooms (block_at m j).unit)
          → reduced s h j ≡ block_value m j +ℚ signed_by_side (block_at m j).side (unit_price m duals (block_at m j).unit)
      solved_block j lt out = reduced-block j lt
          ∙ ap (λ y. block_value m j +ℚ signed_by_side (block_at m j).side y)
          (ap (λ y. unit_price m duals (block_at m j).unit -ℚ y) (absent (is_among t.rooms (block_at m j).unit) refl (offers_reserve m (block_at m j).unit))
          ∙ by_ring ring_ℚ (unit_price m duals (block_at m j).unit ∷ []) (at 0 ⊕ pneg pnil) (at 0) refl)
        where
          absent : (b : Bool) → is_among t.rooms (block_at m j).unit ≡ b → (k : Bool) → kept (k && is_among t.rooms (block_at m j).unit) (reduced s h (room_name m (block_at m j).unit)) ≡ nil
          absent true e k = absurd (out (is_among-from t.rooms (block_at m j).unit e))
          absent false e true = ap (λ (b : Bool). kept b (reduced s h (room_name m (block_at m j).unit))) e
          absent false e false = refl
