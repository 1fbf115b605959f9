-- Prices of at most a sum, and what a MW of a unit may be worth at them.
use Rattle.std.specs.Prelude.{◌≡◌, ℕ, ◌<◌, pos, Bool, true, false, [], ◌∷◌, length, if◌then◌else◌, Contains, refl}
use Rattle.std.proofs.Common.{ap, sym, ◌∙◌, subst, ap₂, inl, inr}
use Rattle.fraction_theory.specs.Fraction.{Fraction, whole, neg_ℚ, ◌+ℚ◌, ◌-ℚ◌, ◌*ℚ◌}
use Rattle.fraction_theory.specs.Order.{◌≤ℚ◌, ◌<ℚ◌}
use Rattle.fraction_theory.specs.Sums.{sum_by}
use Rattle.fraction_theory.proofs.FieldLaws.{ring_ℚ}
use Rattle.fraction_theory.proofs.OrderLaws.{NonNeg-one, by_le2, ≤ℚ_refl, ≤ℚ_trans, ≤ℚ_antisym, ≤ℚ-or-<ℚ, <ℚ-not-≤ℚ, ≤ℚ_of_same}
use Rattle.fraction_theory.proofs.Ring.{by_ring, at, pnil, pone, pneg, ◌⊕◌, ◌⊗◌}
use Rattle.fraction_theory.proofs.SumLaws.{sum_by-times, sum_by-≤, total-Product}
use Rattle.market_model.specs.declared.answered.Duals.{Duals}
use Rattle.market_model.specs.declared.limits.Row.{Row}
use Rattle.market_model.specs.declared.participants.Parts.{Parts}
use Rattle.market_model.specs.Dispatch.{Dispatch, block_at, zero, unit_at}
use Rattle.market_model.specs.LimitRows.{rows, unit_factor, flow, limit}
use Rattle.market_model.specs.Market.{IsMarket}
use Rattle.market_model.specs.Optimality.{Supports, congestion_by, down_of, energy_worth, net_shadow_price, price_by, reserve_worth, room_price, room_price_in, up_of, SideSupported}
use Rattle.market_model.specs.Overrun.{Within}
use Rattle.market_model.specs.Reserves.{offers_reserve, reserve_units}
use Rattle.market_model.proofs.RoomLemmas.{offers-listed}
use Rattle.market_model.proofs.RowLaws.{along, unit_price-by_factors}
use Rattle.market_system.proofs.DualLists.{reserve_unit-below}
use Rattle.one_price.specs.FirstPrices.{sum_of_prices}
use Rattle.price_system.specs.PriceSystem.{Caps, IsFactorSize, KeepsCaps, most_worth}
use Rattle.price_system.proofs.SizeLemmas.{between, first_most, member_most, nil_plus, product_least, product_most, rest_within, second_most, sum_least, within_both, within_sum}
use Rattle.limit_screen.specs.Reaching.{reaches}
use Rattle.price_system.proofs.BoundLemmas.{flow_below, opposite_below}

-- ---- what a MW of a unit is worth, by its parts
module _ (m : Parts) (d : Duals Fraction) where
  -- what limits take
  abbrev pub taken : ℕ → Fraction
  taken u = sum_by (λ r. neg_ℚ (net_shadow_price m d r) *ℚ unit_factor m r u) (rows m)

  -- and a room
  abbrev pub rest : ℕ → Fraction
  rest u = taken u -ℚ room_price m d u

  pub by_parts : (u : ℕ) → energy_worth m d u ≡ (d.energy +ℚ taken u) -ℚ room_price m d u
  unfolding price_by congestion_by
  by_parts u = ap (λ t. t -ℚ room_price m d u)
      (unit_price-by_factors m d u ∙ ap (λ t. d.energy +ℚ t) (total-Product (λ r. neg_ℚ (net_shadow_price m d r)) (λ r. unit_factor m r u) (rows m)))

  pub by_rest : (u : ℕ) → energy_worth m d u ≡ d.energy +ℚ rest u
  by_rest u = by_parts u ∙ by_ring ring_ℚ (d.energy ∷ taken u ∷ room_price m d u ∷ []) ((at 0 ⊕ at 1) ⊕ pneg (at 2)) (at 0 ⊕ (at 1 ⊕ pneg (at 2))) refl

-- ---- a side of a limit whose flow is below it has no price
side_nil : (m : Parts) (r : Row) (p f : Fraction) → SideSupported m r p f → f <ℚ limit m r → p ≡ zero
side_nil m r p f side less = elim (≤ℚ-or-<ℚ p zero) [
  | inl h ↦ ≤ℚ_antisym p zero h side.sign
  | inr l ↦ absurd (<ℚ-not-≤ℚ f (limit m r) less (side.reached l))
]

times_nil : (a b : Fraction) → b ≡ zero → a *ℚ b ≡ zero
times_nil a b e = ap (λ t. a *ℚ t) e ∙ by_ring ring_ℚ (a ∷ []) (at 0 ⊗ pnil) pnil refl

-- ---- prices that support a dispatch
module _ (m : Parts) (x : Dispatch) (d : Duals Fraction) (market : IsMarket m) (supported : Supports m x d) where
  abbrev both : Row → Fraction
  both r = up_of m d r +ℚ down_of m d r

  abbrev limits : Fraction
  limits = sum_by both (rows m)

  abbrev rooms : Fraction
  rooms = sum_by (room_price m d) (reserve_units m)

  -- the prices of a row that is not reached are 0
  up_nil : (r : Row) → Contains (rows m) r → reaches (flow m x r) (limit m r) ≡ false → up_of m d r ≡ zero
  up_nil r k e = let row = supported.rows r k in side_nil m r (up_of m d r) (flow m x r) row.up (flow_below (flow m x r) (limit m r) e)

  down_nil : (r : Row) → Contains (rows m) r → reaches (flow m x r) (limit m r) ≡ false → down_of m d r ≡ zero
  down_nil r k e = let row = supported.rows r k in side_nil m r (down_of m d r) (neg_ℚ (flow m x r)) row.down (opposite_below (flow m x r) (limit m r) e)

  both_nil : (r : Row) → Contains (rows m) r → reaches (flow m x r) (limit m r) ≡ false → both r ≡ zero
  both_nil r k e = ap₂ ◌+ℚ◌ (up_nil r k e) (down_nil r k e) ∙ by_ring ring_ℚ [] (pnil ⊕ pnil) pnil refl

  both_least : (r : Row) → Contains (rows m) r → zero ≤ℚ both r
  both_least r k = let row = supported.rows r k in nil_plus (up_of m d r) (down_of m d r) row.up.sign row.down.sign

  listed_least : (u : ℕ) → Contains (reserve_units m) u → zero ≤ℚ room_price m d u
  listed_least u k = let room = supported.rooms u k in room.sign

  limits_least : zero ≤ℚ limits
  limits_least = sum_least both (rows m) both_least

  rooms_least : zero ≤ℚ rooms
  rooms_least = sum_least (room_price m d) (reserve_units m) listed_least

  pub prices_least : zero ≤ℚ sum_of_prices m d
  prices_least = nil_plus (limits +ℚ rooms) d.reserve (nil_plus limits rooms limits_least rooms_least) supported.need.sign

  room_least : (u : ℕ) → zero ≤ℚ room_price m d u
  room_least u = by (offers_reserve m u) refl
    where
      by : (b : Bool) → offers_reserve m u ≡ b → zero ≤ℚ (if b then room_price_in d.rooms (unit_at m u).row else zero)
      by true e = subst (λ (b : Bool). zero ≤ℚ (if b then room_price_in d.rooms (unit_at m u).row else zero)) e
          (listed_least u (offers-listed m u (reserve_unit-below m market u e) e))
      by false e = ≤ℚ_refl zero

  -- ---- whose sum is at most this
  module _ (most : Fraction) (sums : sum_of_prices m d ≤ℚ most) where
    limits_most : limits ≤ℚ most
    limits_most = ≤ℚ_trans limits (sum_of_prices m d) most
        (by_le2 (limits ∷ rooms ∷ d.reserve ∷ []) (at 0) ((at 0 ⊕ at 1) ⊕ at 2) pone pnil (at 1) pone pnil (at 2) NonNeg-one rooms_least NonNeg-one supported.need.sign refl) sums

    rooms_most : rooms ≤ℚ most
    rooms_most = ≤ℚ_trans rooms (sum_of_prices m d) most
        (by_le2 (limits ∷ rooms ∷ d.reserve ∷ []) (at 1) ((at 0 ⊕ at 1) ⊕ at 2) pone pnil (at 0) pone pnil (at 2) NonNeg-one limits_least NonNeg-one supported.need.sign refl) sums

    pub reserve_most : d.reserve ≤ℚ most
    reserve_most = ≤ℚ_trans d.reserve (sum_of_prices m d) most (second_most (limits +ℚ rooms) d.reserve (nil_plus limits rooms limits_least rooms_least)) sums

    pub most_least : zero ≤ℚ most
    most_least = ≤ℚ_trans zero (sum_of_prices m d) most prices_least sums

    both_most : (r : Row) → Contains (rows m) r → both r ≤ℚ most
    both_most r k = ≤ℚ_trans (both r) limits most (member_most both (rows m) both_least r k) limits_most

    pub up_most : (r : Row) → Contains (rows m) r → up_of m d r ≤ℚ most
    up_most r k = let row = supported.rows r k in ≤ℚ_trans (up_of m d r) (both r) most (first_most (up_of m d r) (down_of m d r) row.down.sign) (both_most r k)

    pub down_most : (r : Row) → Contains (rows m) r → down_of m d r ≤ℚ most
    down_most r k = let row = supported.rows r k in ≤ℚ_trans (down_of m d r) (both r) most (second_most (up_of m d r) (down_of m d r) row.up.sign) (both_most r k)

    pub listed_most : (u : ℕ) → Contains (reserve_units m) u → room_price m d u ≤ℚ most
    listed_most u k = ≤ℚ_trans (room_price m d u) rooms most (member_most (room_price m d) (reserve_units m) listed_least u k) rooms_most

    room_most : (u : ℕ) → room_price m d u ≤ℚ most
    room_most u = by (offers_reserve m u) refl
      where
        by : (b : Bool) → offers_reserve m u ≡ b → (if b then room_price_in d.rooms (unit_at m u).row else zero) ≤ℚ most
        by true e = subst (λ (b : Bool). (if b then room_price_in d.rooms (unit_at m u).row else zero) ≤ℚ most) e
            (listed_most u (offers-listed m u (reserve_unit-below m market u e) e))
        by false e = most_least

    pub reserve_within : (u : ℕ) → Within most (reserve_worth m d u)
    reserve_within u = between most d.reserve (room_price m d u) supported.need.sign reserve_most (room_least u) (room_most u)

    -- ---- what all prices but energy's make of what a MW of a block's unit is worth
    module _ (factor : Fraction) (factors : IsFactorSize m x factor) (j : ℕ) (is : j < length m.blocks) where
      abbrev unit : ℕ
      unit = (block_at m j).unit

      net_within : (r : Row) → Contains (rows m) r → Within (both r) (net_shadow_price m d r)
      net_within r k = let row = supported.rows r k in within_both (up_of m d r) (down_of m d r) row.up.sign row.down.sign

      -- what a row takes is no more than its prices by the size: none where it is not reached
      abbrev part : Row → Fraction
      part r = neg_ℚ (net_shadow_price m d r) *ℚ unit_factor m r unit

      part_nil : (r : Row) → Contains (rows m) r → reaches (flow m x r) (limit m r) ≡ false → part r ≡ zero
      part_nil r k e =
          ap₂ (λ (a b : Fraction). neg_ℚ (a -ℚ b) *ℚ unit_factor m r unit) (up_nil r k e) (down_nil r k e)
          ∙ by_ring ring_ℚ (unit_factor m r unit ∷ []) (pneg (pnil ⊕ pneg pnil) ⊗ at 0) pnil refl

      part_most : (r : Row) → Contains (rows m) r → part r ≤ℚ (factor *ℚ both r)
      part_most r k = by (reaches (flow m x r) (limit m r)) refl
        where
          by : (b : Bool) → reaches (flow m x r) (limit m r) ≡ b → part r ≤ℚ (factor *ℚ both r)
          by true e = product_most (both r) (net_shadow_price m d r) (unit_factor m r unit) (net_within r k) factor (both_least r k) (factors.most r j k e is)
          by false e = ≤ℚ_of_same (part r) (factor *ℚ both r) (part_nil r k e ∙ sym (times_nil factor (both r) (both_nil r k e)))

      part_least : (r : Row) → Contains (rows m) r → (neg_ℚ factor *ℚ both r) ≤ℚ part r
      part_least r k = by (reaches (flow m x r) (limit m r)) refl
        where
          by : (b : Bool) → reaches (flow m x r) (limit m r) ≡ b → (neg_ℚ factor *ℚ both r) ≤ℚ part r
          by true e = product_least (both r) (net_shadow_price m d r) (unit_factor m r unit) (net_within r k) factor (both_least r k) (factors.most r j k e is)
          by false e = ≤ℚ_of_same (neg_ℚ factor *ℚ both r) (part r) (times_nil (neg_ℚ factor) (both r) (both_nil r k e) ∙ sym (part_nil r k e))

      taken_most : taken m d unit ≤ℚ (factor *ℚ limits)
      taken_most = subst (λ t. taken m d unit ≤ℚ t) (sum_by-times factor both (rows m))
          (sum_by-≤ part (λ r. factor *ℚ both r) (rows m) (along (λ r. part r ≤ℚ (factor *ℚ both r)) (rows m) part_most))

      taken_least : (neg_ℚ factor *ℚ limits) ≤ℚ taken m d unit
      taken_least = subst (λ t. t ≤ℚ taken m d unit) (sum_by-times (neg_ℚ factor) both (rows m))
          (sum_by-≤ (λ r. neg_ℚ factor *ℚ both r) part (rows m) (along (λ r. (neg_ℚ factor *ℚ both r) ≤ℚ part r) (rows m) part_least))

      pub rest_size : Within (most *ℚ (whole (pos 1) +ℚ factor)) (rest m d unit)
      rest_size = rest_within most factor limits (taken m d unit) (room_price m d unit) factors.sign limits_most (room_least unit) (room_most unit) taken_least taken_most

-- ---- at prices within the caps
pub worth_within : (m : Parts) (x : Dispatch) (c : Caps) (d : Duals Fraction) → IsMarket m → Supports m x d → KeepsCaps m x c d → (j : ℕ) → j < length m.blocks
    → Within (most_worth c) (energy_worth m d (block_at m j).unit)
worth_within m x c d market supported keeps j is =
    let u : ℕ = (block_at m j).unit in
    let size : Fraction = c.most *ℚ (whole (pos 1) +ℚ c.factor) in
    subst (λ t. Within (most_worth c) t) (sym (by_rest m d u))
    (within_sum c.range size d.energy (rest m d u) keeps.energy (rest_size m x d market supported c.most keeps.sum c.factor keeps.factor j is))
