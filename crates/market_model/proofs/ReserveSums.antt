-- Sums of reserve: what is accepted, what it costs, and what energy and reserve take of rooms at their prices.
use Rattle.std.specs.Prelude.{◌≡◌, ℕ, ◌<◌, Bool, true, false, List, [], ◌∷◌, length, map, Contains, if◌then◌else◌, refl}
use Rattle.std.proofs.Common.{ap, sym, ◌∙◌, inl, inr}
use mathlib.Core.Path.{ap₂}
use Rattle.fraction_theory.specs.Fraction.{Fraction, whole, ◌+ℚ◌, ◌-ℚ◌, ◌*ℚ◌, neg_ℚ}
use Rattle.fraction_theory.specs.Order.{◌<ℚ◌, ◌≤ℚ◌}
use Rattle.fraction_theory.specs.Sums.{sum_by, total}
use Rattle.fraction_theory.proofs.Ring.{neg_times, by_ring, by_ring1, at, pnil, pone, pneg, ◌⊕◌, ◌⊗◌}
use Rattle.fraction_theory.proofs.FieldLaws.{ring_ℚ}
use Rattle.fraction_theory.proofs.OrderLaws.{≤ℚ-or-<ℚ, ≤ℚ_antisym, *ℚ-≤ℚ, NonNeg_from}
use Rattle.fraction_theory.proofs.ListSums.{kept, sum_by-filter, sum_by-members}
use Rattle.fraction_theory.proofs.SumLaws.{sum_by-plus, sum_by-same, sum_by-times, sum_by-≤, total-append, total-Plain, total-Product}
use Rattle.market_model.specs.declared.participants.Parts.{Parts}
use Rattle.market_model.specs.declared.answered.Duals.{Duals}
use Rattle.market_model.specs.Market.{IsMarket, IsReserveOffer}
use Rattle.market_model.specs.Dispatch.{Dispatch, zero, places, block_at, offer_at, unit_at, raised_by, reserved, blocks_of, block_term}
use Rattle.market_model.specs.Reserves.{offer_places, offers_of, offers_reserve, reserve, reserve_cost_terms, reserve_need, offer_price, reserve_units, reserved_term, room, room_used}
use Rattle.market_model.specs.Optimality.{Feasible, NeedSupported, RoomSupported, energy_worth, reserve_worth, room_price, room_price_in, unit_price}
use Rattle.market_model.proofs.PlaceSums.{places_all, gather_times}
use Rattle.market_model.proofs.MarketSums.{block_unit-in, sum_by-minus, sum_by-neg}
use Rattle.market_model.proofs.RowLaws.{along}

-- the unit of an offer is one of the market's
pub offer_unit-in : (m : Parts) → IsMarket m → (n : ℕ) → n < length m.reserve.offers → (offer_at m n).unit < length m.units
offer_unit-in m h n lt = let r : IsReserveOffer (length m.units) (offer_at m n) = h.reserve.each n _ lt in r.unit

-- ---- at a dispatch
-- what is accepted in all, as a sum over offers
pub reserve-by_offers : (m : Parts) (x : Dispatch) → reserve m x ≡ sum_by (reserved x) (offer_places m)
unfolding reserve
reserve-by_offers m x = total-Plain (reserved x) (offer_places m)

-- what a unit uses of its room: what its blocks raise, and its reserve
pub room_used-by_parts : (m : Parts) (x : Dispatch) (u : ℕ) → room_used m x u ≡ sum_by (raised_by m x) (blocks_of m u) +ℚ sum_by (reserved x) (offers_of m u)
unfolding room_used
room_used-by_parts m x u =
    total-append (map (block_term m x) (blocks_of m u)) (map (reserved_term x) (offers_of m u))
    ∙ ap₂ ◌+ℚ◌ (total-Plain (raised_by m x) (blocks_of m u)) (total-Plain (reserved x) (offers_of m u))

-- what the accepted reserve costs
abbrev pub cost_of_reserve : Parts → Dispatch → Fraction
cost_of_reserve m x = sum_by (λ n. offer_price m n *ℚ reserved x n) (offer_places m)

pub reserve_cost-by_offers : (m : Parts) (x : Dispatch) → total (reserve_cost_terms m x) ≡ neg_ℚ (cost_of_reserve m x)
reserve_cost-by_offers m x =
    total-Product (λ n. neg_ℚ (offer_price m n)) (reserved x) (offer_places m)
    ∙ sum_by-same (λ n. neg_ℚ (offer_price m n) *ℚ reserved x n) (λ n. neg_ℚ (offer_price m n *ℚ reserved x n)) (offer_places m) (λ n. neg_times ring_ℚ (offer_price m n) (reserved x n))
    ∙ sum_by-neg (λ n. offer_price m n *ℚ reserved x n) (offer_places m)

-- ---- at duals
-- a unit that offers no reserve has a room of price 0
pub room_price-kept : (m : Parts) (d : Duals Fraction) (u : ℕ) (t : Fraction) → kept (offers_reserve m u) (room_price m d u *ℚ t) ≡ room_price m d u *ℚ t
room_price-kept m d u t = by_test (offers_reserve m u) (room_price_in d.rooms (unit_at m u).row)
  where
    by_test : (b : Bool) (p : Fraction) → kept b ((if b then p else zero) *ℚ t) ≡ (if b then p else zero) *ℚ t
    by_test true p = refl
    by_test false p = by_ring ring_ℚ (t ∷ []) pnil (pnil ⊗ at 0) refl

-- what is used of rooms, at their prices
abbrev pub rooms_taken : Parts → Duals Fraction → Dispatch → Fraction
rooms_taken m d x = sum_by (λ u. room_price m d u *ℚ room_used m x u) (reserve_units m)

-- the same by blocks and offers, each at the price of its unit's room
pub rooms_taken-by_parts : (m : Parts) (d : Duals Fraction) (x : Dispatch) → IsMarket m
    → rooms_taken m d x
    ≡ sum_by (λ j. room_price m d (block_at m j).unit *ℚ raised_by m x j) (places (length m.blocks)) +ℚ sum_by (λ n. room_price m d (offer_at m n).unit *ℚ reserved x n) (offer_places m)
rooms_taken-by_parts m d x h =
    let units : List ℕ = places (length m.units) in
    sum_by-filter (λ u. room_price m d u *ℚ room_used m x u) (offers_reserve m) units
    ∙ sum_by-same (λ u. kept (offers_reserve m u) (room_price m d u *ℚ room_used m x u))
    (λ u. room_price m d u *ℚ sum_by (raised_by m x) (blocks_of m u) +ℚ room_price m d u *ℚ sum_by (reserved x) (offers_of m u)) units
    (λ u. room_price-kept m d u (room_used m x u)
    ∙ ap (λ t. room_price m d u *ℚ t) (room_used-by_parts m x u)
    ∙ ring_ℚ.times_plus (room_price m d u) (sum_by (raised_by m x) (blocks_of m u)) (sum_by (reserved x) (offers_of m u)))
    ∙ sum_by-plus (λ u. room_price m d u *ℚ sum_by (raised_by m x) (blocks_of m u)) (λ u. room_price m d u *ℚ sum_by (reserved x) (offers_of m u)) units
    ∙ ap₂ ◌+ℚ◌
    (gather_times (room_price m d) (raised_by m x) (λ j. (block_at m j).unit) (length m.units) (places (length m.blocks)) (places_all (λ j. (block_at m j).unit < length m.units) (length m.blocks) (block_unit-in m h)))
    (gather_times (room_price m d) (reserved x) (λ n. (offer_at m n).unit) (length m.units) (offer_places m) (places_all (λ n. (offer_at m n).unit < length m.units) (length m.reserve.offers) (offer_unit-in m h)))

-- what blocks raise at the worth of their units' energy
abbrev pub energy_made : Parts → Duals Fraction → Dispatch → Fraction
energy_made m d x = sum_by (λ j. energy_worth m d (block_at m j).unit *ℚ raised_by m x j) (places (length m.blocks))

-- what is accepted of offers at the worth of their units' reserve
abbrev pub reserve_made : Parts → Duals Fraction → Dispatch → Fraction
reserve_made m d x = sum_by (λ n. reserve_worth m d (offer_at m n).unit *ℚ reserved x n) (offer_places m)

-- the two together: at the prices of units and of reserve, less what is used of rooms
pub made-by_parts : (m : Parts) (d : Duals Fraction) (x : Dispatch) → IsMarket m
    → energy_made m d x +ℚ reserve_made m d x
    ≡ (sum_by (λ j. unit_price m d (block_at m j).unit *ℚ raised_by m x j) (places (length m.blocks)) +ℚ d.reserve *ℚ reserve m x) -ℚ rooms_taken m d x
made-by_parts m d x h =
    let raised : Fraction = sum_by (λ j. unit_price m d (block_at m j).unit *ℚ raised_by m x j) (places (length m.blocks)) in
    let room_of_blocks : Fraction = sum_by (λ j. room_price m d (block_at m j).unit *ℚ raised_by m x j) (places (length m.blocks)) in
    let room_of_offers : Fraction = sum_by (λ n. room_price m d (offer_at m n).unit *ℚ reserved x n) (offer_places m) in
    ap₂ ◌+ℚ◌ of_blocks of_offers
    ∙ by_ring1 ring_ℚ (raised ∷ (d.reserve *ℚ reserve m x) ∷ room_of_blocks ∷ room_of_offers ∷ rooms_taken m d x ∷ [])
    ((at 0 ⊕ pneg (at 2)) ⊕ (at 1 ⊕ pneg (at 3))) ((at 0 ⊕ at 1) ⊕ pneg (at 4)) pone (at 4) (at 2 ⊕ at 3) (rooms_taken-by_parts m d x h) refl
  where
    times_minus : (a b t : Fraction) → (a -ℚ b) *ℚ t ≡ a *ℚ t -ℚ b *ℚ t
    times_minus a b t = by_ring ring_ℚ (a ∷ b ∷ t ∷ []) ((at 0 ⊕ pneg (at 1)) ⊗ at 2) (at 0 ⊗ at 2 ⊕ pneg (at 1 ⊗ at 2)) refl

    of_blocks : energy_made m d x
        ≡ sum_by (λ j. unit_price m d (block_at m j).unit *ℚ raised_by m x j) (places (length m.blocks)) -ℚ sum_by (λ j. room_price m d (block_at m j).unit *ℚ raised_by m x j) (places (length m.blocks))
    of_blocks =
        sum_by-same (λ j. energy_worth m d (block_at m j).unit *ℚ raised_by m x j) (λ j. unit_price m d (block_at m j).unit *ℚ raised_by m x j -ℚ room_price m d (block_at m j).unit *ℚ raised_by m x j)
        (places (length m.blocks)) (λ j. times_minus (unit_price m d (block_at m j).unit) (room_price m d (block_at m j).unit) (raised_by m x j))
        ∙ sum_by-minus (λ j. unit_price m d (block_at m j).unit *ℚ raised_by m x j) (λ j. room_price m d (block_at m j).unit *ℚ raised_by m x j) (places (length m.blocks))

    of_offers : reserve_made m d x ≡ d.reserve *ℚ reserve m x -ℚ sum_by (λ n. room_price m d (offer_at m n).unit *ℚ reserved x n) (offer_places m)
    of_offers =
        sum_by-same (λ n. reserve_worth m d (offer_at m n).unit *ℚ reserved x n) (λ n. d.reserve *ℚ reserved x n -ℚ room_price m d (offer_at m n).unit *ℚ reserved x n)
        (offer_places m) (λ n. times_minus d.reserve (room_price m d (offer_at m n).unit) (reserved x n))
        ∙ sum_by-minus (λ n. d.reserve *ℚ reserved x n) (λ n. room_price m d (offer_at m n).unit *ℚ reserved x n) (offer_places m)
        ∙ ap (λ t. t -ℚ sum_by (λ n. room_price m d (offer_at m n).unit *ℚ reserved x n) (offer_places m))
        (sum_by-times d.reserve (reserved x) (offer_places m) ∙ ap (λ t. d.reserve *ℚ t) (sym (reserve-by_offers m x)))

-- whole rooms at their prices
abbrev pub whole_rooms : Parts → Duals Fraction → Fraction
whole_rooms m d = sum_by (λ u. room_price m d u *ℚ room m u) (reserve_units m)

-- a number of price 0, or that is another where its price is above 0, makes at its price what the other makes
times_same : (price a b : Fraction) → zero ≤ℚ price → (zero <ℚ price → a ≡ b) → price *ℚ a ≡ price *ℚ b
times_same price a b sign same = elim (≤ℚ-or-<ℚ price zero) [
  | inl low ↦ by_ring1 ring_ℚ (price ∷ a ∷ b ∷ []) (at 0 ⊗ at 1) (at 0 ⊗ at 2) (at 1 ⊕ pneg (at 2)) (at 0) pnil (≤ℚ_antisym price zero low sign) refl
  | inr above ↦ ap (λ t. price *ℚ t) (same above)
]

-- where duals support a dispatch, reserve makes at its price what is needed of it, and rooms what they are whole
pub reserve-supported : (m : Parts) (x : Dispatch) (d : Duals Fraction) → NeedSupported m x d → d.reserve *ℚ reserve m x ≡ d.reserve *ℚ reserve_need m
reserve-supported m x d s = times_same d.reserve (reserve m x) (reserve_need m) s.sign s.met

pub rooms-supported : (m : Parts) (x : Dispatch) (d : Duals Fraction) → ((u : ℕ) → Contains (reserve_units m) u → RoomSupported m x d u) → rooms_taken m d x ≡ whole_rooms m d
rooms-supported m x d s =
    sum_by-members (λ u. room_price m d u *ℚ room_used m x u) (λ u. room_price m d u *ℚ room m u) (reserve_units m)
    (λ u c. times_same (room_price m d u) (room_used m x u) (room m u) (s u c).sign (s u c).used_up)

-- a feasible one makes at these prices at least as much reserve, and takes no more room
pub reserve-at_least : (m : Parts) (y : Dispatch) (d : Duals Fraction) → Feasible m y → zero ≤ℚ d.reserve → (d.reserve *ℚ reserve_need m) ≤ℚ (d.reserve *ℚ reserve m y)
reserve-at_least m y d f sign = *ℚ-≤ℚ d.reserve (reserve_need m) (reserve m y) (NonNeg_from d.reserve sign) f.need

pub rooms-at_most : (m : Parts) (y : Dispatch) (d : Duals Fraction) → Feasible m y → ((u : ℕ) → Contains (reserve_units m) u → zero ≤ℚ room_price m d u) → rooms_taken m d y ≤ℚ whole_rooms m d
rooms-at_most m y d f signs =
    sum_by-≤ (λ u. room_price m d u *ℚ room_used m y u) (λ u. room_price m d u *ℚ room m u) (reserve_units m)
    (along (λ u. (room_price m d u *ℚ room_used m y u) ≤ℚ (room_price m d u *ℚ room m u)) (reserve_units m)
    (λ u c. *ℚ-≤ℚ (room_price m d u) (room_used m y u) (room m u) (NonNeg_from (room_price m d u) (signs u c)) (f.rooms u c)))
