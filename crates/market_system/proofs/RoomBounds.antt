-- Reserve and rooms as sums over blocks and offers, and between which bounds these are: the blocks of a unit raise its output by no more than it
-- has room for on either side.
use Rattle.std.specs.Prelude.{◌≡◌, ℕ, ◌<◌, ◌==◌, ◌&&◌, Bool, true, false, pos, [], ◌∷◌, length, map, filter, if◌then◌else◌, refl}
use Rattle.std.proofs.Common.{ap, ap₂, sym, ◌∙◌, subst, subst₂}
use Rattle.fraction_theory.specs.Fraction.{Fraction, whole, neg_ℚ, ◌+ℚ◌, ◌-ℚ◌, ◌*ℚ◌}
use Rattle.fraction_theory.specs.Order.{◌≤ℚ◌}
use Rattle.fraction_theory.specs.Signs.{part_above}
use Rattle.fraction_theory.specs.Sums.{sum_by}
use Rattle.fraction_theory.proofs.Ring.{by_ring, at, pnil, pone, pneg, ◌⊕◌, ◌⊗◌}
use Rattle.fraction_theory.proofs.FieldLaws.{ring_ℚ}
use Rattle.fraction_theory.proofs.OrderLaws.{≤ℚ_of_same, ≤ℚ_trans, by_le1, by_le2, NonNeg-one, whole-≤ℚ}
use Rattle.fraction_theory.proofs.SignLaws.{part_least}
use Rattle.fraction_theory.proofs.SumLaws.{sum_by-nil, sum_by-same, sum_by-≤, total-append, total-Plain}
use Rattle.fraction_theory.proofs.ListSums.{kept, sum_by-filter}
use Rattle.market_model.specs.declared.participants.Block.{Block}
use Rattle.market_model.specs.declared.participants.Parts.{Parts}
use Rattle.market_model.specs.declared.participants.Side.{Side}
use Rattle.market_model.specs.declared.participants.Side.TheVariants.{Sell, Buy}
use Rattle.market_model.specs.Dispatch.{Dispatch, IsDispatch, zero, places, block_at, offer_at, unit_at, blocks_of, block_term, signed_by_side, accepted, quantity, raised_by, reserved, reserve_quantity}
use Rattle.market_model.specs.Market.{IsMarket}
use Rattle.market_model.specs.Reserves.{offer_places, offers_of, reserve, reserve_need, reserved_term, room_used}
use Rattle.market_model.specs.Stairs.{is_on_stair, offered, same_side, stair_in}
use Rattle.market_model.proofs.MarketSums.{sum_by-neg}
use Rattle.market_model.proofs.PlaceSums.{places_all, sum_by-places, sum_by-whole}
use Rattle.market_model.proofs.ReserveSums.{reserve-by_offers}
use Rattle.market_system.specs.MarketSystem.{at_unit, block_sign, most_reserve, reserve_offered}
use Rattle.market_system.proofs.SystemLaws.{signed-times}

-- ---- sums
-- what is offered of reserve in all
pub offered-by_offers : (m : Parts) → reserve_offered m ≡ sum_by (reserve_quantity m) (offer_places m)
offered-by_offers m = total-Plain (reserve_quantity m) (offer_places m)

-- the need's row may keep that
pub offered_most : (m : Parts) → reserve_offered m ≤ℚ most_reserve m
offered_most m = by_le1 (reserve_need m ∷ reserve_offered m ∷ part_above (reserve_offered m -ℚ reserve_need m) ∷ []) (at 1) (at 0 ⊕ at 2) pone (at 1 ⊕ pneg (at 0)) (at 2) NonNeg-one
    (part_least (reserve_offered m -ℚ reserve_need m)).1 refl

-- what blocks with these MW raise the output of a unit by, and what its offers with these MW take of its room
abbrev pub raised_of : Parts → ℕ → (ℕ → Fraction) → Fraction
raised_of m u v = sum_by (λ j. at_unit u (block_at m j).unit (block_sign m j) *ℚ v j) (places (length m.blocks))

abbrev pub reserved_of : Parts → ℕ → (ℕ → Fraction) → Fraction
reserved_of m u w = sum_by (λ n. at_unit u (offer_at m n).unit (whole (pos 1)) *ℚ w n) (offer_places m)

-- what a unit uses of its room is the two together
pub room_used-by_columns : (m : Parts) (x : Dispatch) (u : ℕ) → room_used m x u ≡ raised_of m u (accepted x) +ℚ reserved_of m u (reserved x)
unfolding room_used
room_used-by_columns m x u =
    total-append (map (block_term m x) (blocks_of m u)) (map (reserved_term x) (offers_of m u))
    ∙ ap₂ ◌+ℚ◌
    (total-Plain (raised_by m x) (blocks_of m u)
    ∙ sum_by-filter (raised_by m x) (λ j. (block_at m j).unit == u) (places (length m.blocks))
    ∙ sum_by-same (λ j. kept ((block_at m j).unit == u) (raised_by m x j)) (λ j. at_unit u (block_at m j).unit (block_sign m j) *ℚ accepted x j) (places (length m.blocks))
    (λ j. ap (kept ((block_at m j).unit == u)) (sym (signed-times (block_at m j).side (accepted x j))) ∙ by_test ((block_at m j).unit == u) (block_sign m j) (accepted x j)))
    (total-Plain (reserved x) (offers_of m u)
    ∙ sum_by-filter (reserved x) (λ n. (offer_at m n).unit == u) (offer_places m)
    ∙ sum_by-same (λ n. kept ((offer_at m n).unit == u) (reserved x n)) (λ n. at_unit u (offer_at m n).unit (whole (pos 1)) *ℚ reserved x n) (offer_places m)
    (λ n. ap (kept ((offer_at m n).unit == u)) (by_ring ring_ℚ (reserved x n ∷ []) (at 0) (pone ⊗ at 0) refl) ∙ by_test ((offer_at m n).unit == u) (whole (pos 1)) (reserved x n)))
  where
    by_test : (b : Bool) (a y : Fraction) → kept b (a *ℚ y) ≡ (if b then a else zero) *ℚ y
    by_test true a y = refl
    by_test false a y = by_ring ring_ℚ (y ∷ []) pnil (pnil ⊗ at 0) refl

-- ---- bounds
-- a block of a unit or of another, of a side: what it raises is between the opposite of what it buys at most, and what it sells at most
raised_between : (b : Bool) (side : Side) (y q : Fraction) → zero ≤ℚ y → y ≤ℚ q
    → (kept (b && same_side side Buy) (neg_ℚ q) ≤ℚ ((if b then signed_by_side side (whole (pos 1)) else zero) *ℚ y))
    × (((if b then signed_by_side side (whole (pos 1)) else zero) *ℚ y) ≤ℚ kept (b && same_side side Sell) q)
raised_between false side y q low high = (
  ≤ℚ_of_same zero (zero *ℚ y) (by_ring ring_ℚ (y ∷ []) pnil (pnil ⊗ at 0) refl),
  ≤ℚ_of_same (zero *ℚ y) zero (by_ring ring_ℚ (y ∷ []) (pnil ⊗ at 0) pnil refl),
)
raised_between true Sell y q low high = (
  by_le1 (y ∷ []) pnil (pone ⊗ at 0) pone pnil (at 0) NonNeg-one low refl,
  by_le1 (y ∷ q ∷ []) (pone ⊗ at 0) (at 1) pone (at 0) (at 1) NonNeg-one high refl,
)
raised_between true Buy y q low high = (
  by_le1 (y ∷ q ∷ []) (pneg (at 1)) (pneg pone ⊗ at 0) pone (at 0) (at 1) NonNeg-one high refl,
  by_le1 (y ∷ []) (pneg pone ⊗ at 0) pnil pone pnil (at 0) NonNeg-one low refl,
)

module _ (m : Parts) where
  -- what the blocks of a unit on a side offer
  stair_sum : (u : ℕ) (side : Side) → sum_by (λ j. kept (is_on_stair u side (block_at m j)) (quantity m j)) (places (length m.blocks)) ≡ whole (offered (stair_in u side m.blocks))
  unfolding stair_in
  stair_sum u side =
      sum_by-places (λ (block : Block). kept (is_on_stair u side block) (whole block.quantity)) _ m.blocks
      ∙ sym (sum_by-filter (λ (block : Block). whole block.quantity) (is_on_stair u side) m.blocks)
      ∙ sum_by-whole (λ (block : Block). block.quantity) offered refl (λ block blocks. refl) (filter (is_on_stair u side) m.blocks)

  stair_sum_neg : (u : ℕ) (side : Side) → sum_by (λ j. kept (is_on_stair u side (block_at m j)) (neg_ℚ (quantity m j))) (places (length m.blocks)) ≡ neg_ℚ (whole (offered (stair_in u side m.blocks)))
  stair_sum_neg u side =
      sum_by-same (λ j. kept (is_on_stair u side (block_at m j)) (neg_ℚ (quantity m j))) (λ j. neg_ℚ (kept (is_on_stair u side (block_at m j)) (quantity m j))) (places (length m.blocks))
      (λ j. turned (is_on_stair u side (block_at m j)) (quantity m j))
      ∙ sum_by-neg (λ j. kept (is_on_stair u side (block_at m j)) (quantity m j)) (places (length m.blocks)) ∙ ap neg_ℚ (stair_sum u side)
    where
      turned : (b : Bool) (q : Fraction) → kept b (neg_ℚ q) ≡ neg_ℚ (kept b q)
      turned true q = refl
      turned false q = by_ring ring_ℚ [] pnil (pneg pnil) refl

  -- blocks within their quantities raise a unit's output by at least the opposite of its room to buy, and at most by its room to sell
  module _ (market : IsMarket m) (v : ℕ → Fraction) (above : (j : ℕ) → j < length m.blocks → zero ≤ℚ v j) (within : (j : ℕ) → j < length m.blocks → v j ≤ℚ quantity m j) (u : ℕ) (lt : u < length m.units) where
    between : (j : ℕ) → j < length m.blocks
        → (kept (is_on_stair u Buy (block_at m j)) (neg_ℚ (quantity m j)) ≤ℚ (at_unit u (block_at m j).unit (block_sign m j) *ℚ v j))
        × ((at_unit u (block_at m j).unit (block_sign m j) *ℚ v j) ≤ℚ kept (is_on_stair u Sell (block_at m j)) (quantity m j))
    between j h = raised_between ((block_at m j).unit == u) (block_at m j).side (v j) (quantity m j) (above j h) (within j h)

    pub raised_of-at_least : neg_ℚ (whole (unit_at m u).down) ≤ℚ raised_of m u v
    raised_of-at_least =
        ≤ℚ_trans (neg_ℚ (whole (unit_at m u).down)) (neg_ℚ (whole (offered (stair_in u Buy m.blocks)))) (raised_of m u v)
        (by_le1 (whole (offered (stair_in u Buy m.blocks)) ∷ whole (unit_at m u).down ∷ []) (pneg (at 1)) (pneg (at 0)) pone (at 0) (at 1) NonNeg-one
        (whole-≤ℚ (offered (stair_in u Buy m.blocks)) (unit_at m u).down (market.room u _ lt Buy)) refl)
        (subst (λ a. a ≤ℚ raised_of m u v) (stair_sum_neg u Buy)
        (sum_by-≤ (λ j. kept (is_on_stair u Buy (block_at m j)) (neg_ℚ (quantity m j))) (λ j. at_unit u (block_at m j).unit (block_sign m j) *ℚ v j) (places (length m.blocks))
        (places_all (λ j. kept (is_on_stair u Buy (block_at m j)) (neg_ℚ (quantity m j)) ≤ℚ (at_unit u (block_at m j).unit (block_sign m j) *ℚ v j)) (length m.blocks) (λ j h. (between j h).0))))

    pub raised_of-at_most : raised_of m u v ≤ℚ whole (unit_at m u).up
    raised_of-at_most =
        ≤ℚ_trans (raised_of m u v) (whole (offered (stair_in u Sell m.blocks))) (whole (unit_at m u).up)
        (subst (λ a. raised_of m u v ≤ℚ a) (stair_sum u Sell)
        (sum_by-≤ (λ j. at_unit u (block_at m j).unit (block_sign m j) *ℚ v j) (λ j. kept (is_on_stair u Sell (block_at m j)) (quantity m j)) (places (length m.blocks))
        (places_all (λ j. (at_unit u (block_at m j).unit (block_sign m j) *ℚ v j) ≤ℚ kept (is_on_stair u Sell (block_at m j)) (quantity m j)) (length m.blocks) (λ j h. (between j h).1))))
        (whole-≤ℚ (offered (stair_in u Sell m.blocks)) (unit_at m u).up (market.room u _ lt Sell))

  -- offers that are at least 0 take at least nothing of a room
  pub reserved_of-above : (w : ℕ → Fraction) → ((n : ℕ) → n < length m.reserve.offers → zero ≤ℚ w n) → (u : ℕ) → zero ≤ℚ reserved_of m u w
  reserved_of-above w above u =
      subst (λ a. a ≤ℚ reserved_of m u w) (sum_by-nil (offer_places m))
      (sum_by-≤ (λ n. zero) (λ n. at_unit u (offer_at m n).unit (whole (pos 1)) *ℚ w n) (offer_places m)
      (places_all (λ n. zero ≤ℚ (at_unit u (offer_at m n).unit (whole (pos 1)) *ℚ w n)) (length m.reserve.offers) (λ n h. by_test ((offer_at m n).unit == u) (w n) (above n h))))
    where
      by_test : (b : Bool) (y : Fraction) → zero ≤ℚ y → zero ≤ℚ ((if b then whole (pos 1) else zero) *ℚ y)
      by_test true y low = by_le1 (y ∷ []) pnil (pone ⊗ at 0) pone pnil (at 0) NonNeg-one low refl
      by_test false y low = ≤ℚ_of_same zero (zero *ℚ y) (by_ring ring_ℚ (y ∷ []) pnil (pnil ⊗ at 0) refl)

  module _ (x : Dispatch) (is : IsDispatch m x) where
    -- so a unit uses of its room at least the opposite of its room to buy
    pub room_used-at_least : IsMarket m → (u : ℕ) → u < length m.units → neg_ℚ (whole (unit_at m u).down) ≤ℚ room_used m x u
    room_used-at_least market u lt =
        subst (λ a. neg_ℚ (whole (unit_at m u).down) ≤ℚ a) (sym (room_used-by_columns m x u))
        (by_le2 (whole (unit_at m u).down ∷ raised_of m u (accepted x) ∷ reserved_of m u (reserved x) ∷ []) (pneg (at 0)) (at 1 ⊕ at 2)
        pone (pneg (at 0)) (at 1) pone pnil (at 2) NonNeg-one (raised_of-at_least market (accepted x) is.above is.within u lt) NonNeg-one (reserved_of-above (reserved x) is.reserve_above u) refl)

    -- no more reserve is accepted than is offered
    pub reserve-at_most : reserve m x ≤ℚ reserve_offered m
    reserve-at_most =
        subst₂ ◌≤ℚ◌ (sym (reserve-by_offers m x)) (sym (offered-by_offers m))
        (sum_by-≤ (reserved x) (reserve_quantity m) (offer_places m) (places_all (λ n. reserved x n ≤ℚ reserve_quantity m n) (length m.reserve.offers) is.reserve_within))

    -- so it is at most what the need's row is to keep
    pub reserve-at_most_kept : reserve m x ≤ℚ most_reserve m
    reserve-at_most_kept = ≤ℚ_trans (reserve m x) (reserve_offered m) (most_reserve m) reserve-at_most (offered_most m)
