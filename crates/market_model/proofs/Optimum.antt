-- A supported dispatch is best, and what is left over is what limits earn.
use Rattle.std.specs.Prelude.{◌≡◌, ℕ, pos, Bool, true, false, List, [], ◌∷◌, ◌++◌, length, map, filter, refl}
use Rattle.std.proofs.Common.{ap, sym, ◌∙◌, subst, subst₂}
use mathlib.Core.Path.{ap₂}
use Rattle.fraction_theory.specs.Fraction.{Fraction, whole, ◌+ℚ◌, ◌-ℚ◌, ◌*ℚ◌, neg_ℚ}
use Rattle.fraction_theory.specs.Order.{◌≤ℚ◌}
use Rattle.fraction_theory.specs.Sums.{sum_by, Plain, total}
use Rattle.fraction_theory.proofs.Ring.{neg_times, by_ring, by_ring1, at, pnil, pone, pneg, ◌⊕◌, ◌⊗◌}
use Rattle.fraction_theory.proofs.FieldLaws.{ring_ℚ}
use Rattle.fraction_theory.proofs.OrderLaws.{by_le1, by_le2, +ℚ-≤ℚ, NonNeg_from, NonNeg-one, not-≤ℚ}
use Rattle.fraction_theory.proofs.ListSums.{kept, sum_by-filter}
use Rattle.fraction_theory.proofs.SumLaws.{sum_by-plus, sum_by-same, sum_by-≤, total-append, total-Product, total-Plain}
use Rattle.fraction_theory.proofs.Duality.{supports_best}
use Rattle.market_model.specs.declared.participants.Parts.{Parts}
use Rattle.market_model.specs.declared.participants.Side.{Side}
use Rattle.market_model.specs.declared.participants.Side.TheVariants.{Sell, Buy}
use Rattle.market_model.specs.declared.answered.Duals.{Duals}
use Rattle.market_model.specs.Market.{IsMarket}
use Rattle.market_model.specs.Dispatch.{Dispatch, places, block_at, offer_at, signed_by_side, accepted, quantity, reserved, reserve_quantity, raised_by, balance, output, demand}
use Rattle.market_model.specs.Optimality.{Feasible, Supports, Gains, Loses, price, block_value, block_value_terms, penalty_terms, welfare_for, welfare, net_shadow_price, bus_price, unit_price, energy_worth, reserve_worth}
use Rattle.market_model.specs.Overrun.{excess}
use Rattle.market_model.specs.Reserves.{offer_places, reserve, reserve_cost_terms, reserve_need, offer_price}
use Rattle.market_model.specs.Settlement.{surplus}
use Rattle.market_model.specs.Laws.{LawOfTheOptimum, LawOfTheSurplus, LawOfItsSign, LawOfNoLimits}
use Rattle.market_model.proofs.RowLaws.{row_prices, row_penalties, priced-by_rows, row_prices-rents, row_prices-most, rents-sign}
use Rattle.market_model.specs.declared.limits.Row.{Row}
use Rattle.market_model.specs.LimitRows.{rows, flow, row_offset, penalty, is_soft}
use Rattle.market_model.proofs.Excesses.{hard_costs_nothing}
use Rattle.market_model.proofs.PlaceSums.{places_all}
use Rattle.market_model.proofs.MarketSums.{sum_by-minus, sum_by-neg, fixed_part, priced_outputs-by_parts}
use Rattle.market_model.proofs.ReserveSums.{cost_of_reserve, reserve_cost-by_offers, rooms_taken, energy_made, reserve_made, made-by_parts, whole_rooms, reserve-supported, rooms-supported, reserve-at_least, rooms-at_most}
use Rattle.market_model.proofs.UnitPrices.{surplus_terms-made}

-- what is bought less what is sold, as a sum over blocks
abbrev pub value_of_blocks : Parts → Dispatch → Fraction
value_of_blocks m x = sum_by (λ j. block_value m j *ℚ accepted x j) (places (length m.blocks))

-- the welfare is that, less the penalties of all rows, of which those of hard limits are 0, and less the cost of reserve
pub welfare-by_parts : (m : Parts) (x : Dispatch) → IsMarket m → welfare m x ≡ (value_of_blocks m x -ℚ row_penalties m x) -ℚ cost_of_reserve m x
unfolding welfare_for
welfare-by_parts m x market =
    total-append (block_value_terms m x ++ penalty_terms m (rows m) x) (reserve_cost_terms m x)
    ∙ ap₂ ◌+ℚ◌
    (total-append (block_value_terms m x) (penalty_terms m (rows m) x)
    ∙ ap₂ ◌+ℚ◌ (total-Product (block_value m) (accepted x) (places (length m.blocks)))
    (total-Product (λ r. neg_ℚ (penalty m r)) (excess m x) (filter (is_soft m) (rows m))
    ∙ sum_by-filter (λ r. neg_ℚ (penalty m r) *ℚ excess m x r) (is_soft m) (rows m)
    ∙ sum_by-same (λ r. kept (is_soft m r) (neg_ℚ (penalty m r) *ℚ excess m x r)) (λ r. neg_ℚ (penalty m r *ℚ excess m x r)) (rows m)
    (λ r. of_row (is_soft m r) (penalty m r) (excess m x r) (λ hard. hard_costs_nothing m market r hard))
    ∙ sum_by-neg (λ r. penalty m r *ℚ excess m x r) (rows m)))
    (reserve_cost-by_offers m x)
  where
    of_row : (soft : Bool) (penalty excess : Fraction) → (soft ≡ false → penalty ≡ whole (pos 0)) → kept soft (neg_ℚ penalty *ℚ excess) ≡ neg_ℚ (penalty *ℚ excess)
    of_row true penalty excess hard = neg_times ring_ℚ penalty excess
    of_row false penalty excess hard = by_ring1 ring_ℚ (penalty ∷ excess ∷ []) pnil (pneg (at 0 ⊗ at 1)) (at 1) (at 0) pnil (hard refl) refl

-- what a block that takes z adds: its value, and what it raises at the worth of its unit's energy
abbrev pub gain : Side → Fraction → Fraction → Fraction → Fraction
gain side price worth z = neg_ℚ (signed_by_side side price) *ℚ z +ℚ worth *ℚ signed_by_side side z

-- a block that is supported gains at least as much as with any other quantity
pub supported_gains : (side : Side) (price worth x q z : Fraction) → (Gains side price worth → x ≡ q) → (Loses side price worth → x ≡ whole (pos 0))
    → whole (pos 0) ≤ℚ z → z ≤ℚ q → gain side price worth z ≤ℚ gain side price worth x
supported_gains Sell price worth x q z full empty h k =
    subst₂ ◌≤ℚ◌ (as_gain z) (as_gain x)
    (supports_best worth price x q z (record { full = λ n. full (not-≤ℚ worth price n); empty = λ n. empty (not-≤ℚ price worth n) }) (NonNeg_from z h) k)
  where
    as_gain : (t : Fraction) → (worth -ℚ price) *ℚ t ≡ gain Sell price worth t
    as_gain t = by_ring ring_ℚ (worth ∷ price ∷ t ∷ []) ((at 0 ⊕ pneg (at 1)) ⊗ at 2) (pneg (at 1) ⊗ at 2 ⊕ at 0 ⊗ at 2) refl
supported_gains Buy price worth x q z full empty h k =
    subst₂ ◌≤ℚ◌ (as_gain z) (as_gain x)
    (supports_best price worth x q z (record { full = λ n. full (not-≤ℚ price worth n); empty = λ n. empty (not-≤ℚ worth price n) }) (NonNeg_from z h) k)
  where
    as_gain : (t : Fraction) → (price -ℚ worth) *ℚ t ≡ gain Buy price worth t
    as_gain t = by_ring ring_ℚ (worth ∷ price ∷ t ∷ []) ((at 1 ⊕ pneg (at 0)) ⊗ at 2) (pneg (pneg (at 1)) ⊗ at 2 ⊕ at 0 ⊗ pneg (at 2)) refl

-- the value and what the blocks raise at the worth of their units' energy
pub gains-by_blocks : (m : Parts) (d : Duals Fraction) (x : Dispatch)
    → sum_by (λ j. gain (block_at m j).side (price m j) (energy_worth m d (block_at m j).unit) (accepted x j)) (places (length m.blocks)) ≡ value_of_blocks m x +ℚ energy_made m d x
gains-by_blocks m d x = sum_by-plus (λ j. block_value m j *ℚ accepted x j) (λ j. energy_worth m d (block_at m j).unit *ℚ raised_by m x j) (places (length m.blocks))

-- of these a supported dispatch has the greatest among all within bounds
greatest_of_blocks : (m : Parts) (d : Duals Fraction) (x y : Dispatch) → Supports m x d → Feasible m y → (value_of_blocks m y +ℚ energy_made m d y) ≤ℚ (value_of_blocks m x +ℚ energy_made m d x)
greatest_of_blocks m d x y s fy =
    subst₂ ◌≤ℚ◌ (gains-by_blocks m d y) (gains-by_blocks m d x)
    (sum_by-≤ (λ j. of_block y j) (λ j. of_block x j) (places (length m.blocks))
    (places_all (λ j. of_block y j ≤ℚ of_block x j) (length m.blocks)
    (λ j lt. supported_gains (block_at m j).side (price m j) (energy_worth m d (block_at m j).unit) (accepted x j) (quantity m j) (accepted y j)
    (s.blocks j lt).full (s.blocks j lt).empty (fy.blocks.above j lt) (fy.blocks.within j lt))))
  where
    of_block : Dispatch → ℕ → Fraction
    of_block t j = gain (block_at m j).side (price m j) (energy_worth m d (block_at m j).unit) (accepted t j)

-- an offer of reserve gains as a block that sells: what is accepted at the worth of its unit's reserve, less what it costs
pub gains-by_offers : (m : Parts) (d : Duals Fraction) (x : Dispatch)
    → sum_by (λ n. gain Sell (offer_price m n) (reserve_worth m d (offer_at m n).unit) (reserved x n)) (offer_places m) ≡ reserve_made m d x -ℚ cost_of_reserve m x
gains-by_offers m d x =
    sum_by-same (λ n. gain Sell (offer_price m n) (reserve_worth m d (offer_at m n).unit) (reserved x n)) (λ n. reserve_worth m d (offer_at m n).unit *ℚ reserved x n -ℚ offer_price m n *ℚ reserved x n)
    (offer_places m)
    (λ n. by_ring ring_ℚ (offer_price m n ∷ reserve_worth m d (offer_at m n).unit ∷ reserved x n ∷ []) (pneg (at 0) ⊗ at 2 ⊕ at 1 ⊗ at 2) (at 1 ⊗ at 2 ⊕ pneg (at 0 ⊗ at 2)) refl)
    ∙ sum_by-minus (λ n. reserve_worth m d (offer_at m n).unit *ℚ reserved x n) (λ n. offer_price m n *ℚ reserved x n) (offer_places m)

greatest_of_offers : (m : Parts) (d : Duals Fraction) (x y : Dispatch) → Supports m x d → Feasible m y → (reserve_made m d y -ℚ cost_of_reserve m y) ≤ℚ (reserve_made m d x -ℚ cost_of_reserve m x)
greatest_of_offers m d x y s fy =
    subst₂ ◌≤ℚ◌ (gains-by_offers m d y) (gains-by_offers m d x)
    (sum_by-≤ (λ n. of_offer y n) (λ n. of_offer x n) (offer_places m)
    (places_all (λ n. of_offer y n ≤ℚ of_offer x n) (length m.reserve.offers)
    (λ n lt. supported_gains Sell (offer_price m n) (reserve_worth m d (offer_at m n).unit) (reserved x n) (reserve_quantity m n) (reserved y n)
    (s.offers n lt).full (s.offers n lt).empty (fy.blocks.reserve_above n lt) (fy.blocks.reserve_within n lt))))
  where
    of_offer : Dispatch → ℕ → Fraction
    of_offer t n = gain Sell (offer_price m n) (reserve_worth m d (offer_at m n).unit) (reserved t n)

-- of reserve at its price, less what is used of rooms, a supported dispatch makes the least
least_of_reserve : (m : Parts) (d : Duals Fraction) (x y : Dispatch) → Supports m x d → Feasible m y → (d.reserve *ℚ reserve m x -ℚ rooms_taken m d x) ≤ℚ (d.reserve *ℚ reserve m y -ℚ rooms_taken m d y)
least_of_reserve m d x y s fy =
    subst (λ t. t ≤ℚ (d.reserve *ℚ reserve m y -ℚ rooms_taken m d y)) (sym (ap₂ ◌-ℚ◌ (reserve-supported m x d s.need) (rooms-supported m x d s.rooms)))
    (by_le2 ((d.reserve *ℚ reserve_need m) ∷ (d.reserve *ℚ reserve m y) ∷ whole_rooms m d ∷ rooms_taken m d y ∷ []) (at 0 ⊕ pneg (at 2)) (at 1 ⊕ pneg (at 3))
    pone (at 0) (at 1) pone (at 3) (at 2)
    NonNeg-one (reserve-at_least m y d fy s.need.sign) NonNeg-one (rooms-at_most m y d fy (λ u c. (s.rooms u c).sign)) refl)

-- so it has the greatest of the value and what the blocks raise at the prices of their units, less the cost of reserve
pub greatest_gains : (m : Parts) (d : Duals Fraction) (x y : Dispatch) → IsMarket m → Supports m x d → Feasible m y
    → ((value_of_blocks m y +ℚ sum_by (λ j. unit_price m d (block_at m j).unit *ℚ raised_by m y j) (places (length m.blocks))) -ℚ cost_of_reserve m y)
    ≤ℚ ((value_of_blocks m x +ℚ sum_by (λ j. unit_price m d (block_at m j).unit *ℚ raised_by m x j) (places (length m.blocks))) -ℚ cost_of_reserve m x)
greatest_gains m d x y h s fy =
    by_le2 (sides y ∷ (d.reserve *ℚ reserve m y) ∷ rooms_taken m d y ∷ sides x ∷ (d.reserve *ℚ reserve m x) ∷ rooms_taken m d x ∷ []) (at 0) (at 3)
    pone (at 0 ⊕ (at 1 ⊕ pneg (at 2))) (at 3 ⊕ (at 4 ⊕ pneg (at 5))) pone (at 4 ⊕ pneg (at 5)) (at 1 ⊕ pneg (at 2))
    NonNeg-one
    (subst₂ ◌≤ℚ◌ (by_parts y) (by_parts x)
    (+ℚ-≤ℚ (value_of_blocks m y +ℚ energy_made m d y) (value_of_blocks m x +ℚ energy_made m d x) (reserve_made m d y -ℚ cost_of_reserve m y) (reserve_made m d x -ℚ cost_of_reserve m x)
    (greatest_of_blocks m d x y s fy) (greatest_of_offers m d x y s fy)))
    NonNeg-one (least_of_reserve m d x y s fy) refl
  where
    sides : Dispatch → Fraction
    sides z = (value_of_blocks m z +ℚ sum_by (λ j. unit_price m d (block_at m j).unit *ℚ raised_by m z j) (places (length m.blocks))) -ℚ cost_of_reserve m z

    by_parts : (z : Dispatch) → (value_of_blocks m z +ℚ energy_made m d z) +ℚ (reserve_made m d z -ℚ cost_of_reserve m z) ≡ sides z +ℚ (d.reserve *ℚ reserve m z -ℚ rooms_taken m d z)
    by_parts z =
        let raised : Fraction = sum_by (λ j. unit_price m d (block_at m j).unit *ℚ raised_by m z j) (places (length m.blocks)) in
        by_ring1 ring_ℚ (value_of_blocks m z ∷ energy_made m d z ∷ reserve_made m d z ∷ cost_of_reserve m z ∷ raised ∷ (d.reserve *ℚ reserve m z) ∷ rooms_taken m d z ∷ [])
        ((at 0 ⊕ at 1) ⊕ (at 2 ⊕ pneg (at 3))) (((at 0 ⊕ at 4) ⊕ pneg (at 3)) ⊕ (at 5 ⊕ pneg (at 6)))
        pone (at 1 ⊕ at 2) ((at 4 ⊕ at 5) ⊕ pneg (at 6)) (made-by_parts m d z h) refl

-- the outputs of a dispatch in balance, at the prices of units, less demands at those of buses, are the opposite of what the rows take
pub priced-balanced : (m : Parts) → IsMarket m → (d : Duals Fraction) (x : Dispatch) → balance m x ≡ whole (pos 0)
    → sum_by (λ u. unit_price m d u *ℚ output m x u) (places (length m.units)) -ℚ sum_by (λ i. bus_price m d i *ℚ demand m i) (places (length m.buses)) ≡ neg_ℚ (row_prices m d x)
priced-balanced m h d x e =
    priced-by_rows m h d x
    ∙ by_ring1 ring_ℚ (d.energy ∷ balance m x ∷ row_prices m d x ∷ []) (at 0 ⊗ at 1 ⊕ pneg (at 2)) (pneg (at 2)) (at 0) (at 1) pnil e refl

-- what is put out and taken makes at these prices, by units, blocks and loads
abbrev priced_at : Parts → Duals Fraction → Dispatch → Fraction
priced_at m d x =
    (sum_by (λ u. unit_price m d u *ℚ fixed_part m u) (places (length m.units)) +ℚ sum_by (λ j. unit_price m d (block_at m j).unit *ℚ raised_by m x j) (places (length m.blocks)))
    -ℚ sum_by (λ i. bus_price m d i *ℚ demand m i) (places (length m.buses))

-- with the penalties of rows it is the least where the duals support the dispatch
pub priced_raises : (m : Parts) (d : Duals Fraction) (x y : Dispatch) → IsMarket m → Feasible m x → Supports m x d → Feasible m y
    → (priced_at m d x +ℚ row_penalties m x) ≤ℚ (priced_at m d y +ℚ row_penalties m y)
priced_raises m d x y h fx s fy =
    subst₂ (λ a b. (a +ℚ row_penalties m x) ≤ℚ (b +ℚ row_penalties m y)) (by_parts x fx.balanced) (by_parts y fy.balanced)
    (by_le1 (row_prices m d x ∷ row_prices m d y ∷ row_penalties m x ∷ row_penalties m y ∷ []) (pneg (at 0) ⊕ at 2) (pneg (at 1) ⊕ at 3)
    pone (at 1 ⊕ pneg (at 3)) (at 0 ⊕ pneg (at 2)) NonNeg-one (row_prices-most m h d x s y fy) refl)
  where
    by_parts : (z : Dispatch) → balance m z ≡ whole (pos 0) → neg_ℚ (row_prices m d z) ≡ priced_at m d z
    by_parts z e = sym (priced-balanced m h d z e) ∙ ap (λ t. t -ℚ sum_by (λ i. bus_price m d i *ℚ demand m i) (places (length m.buses))) (priced_outputs-by_parts m z (unit_price m d) h)

pub law_of_the_optimum : LawOfTheOptimum
law_of_the_optimum m d x y h fx s fy =
    let units : Fraction = sum_by (λ u. unit_price m d u *ℚ fixed_part m u) (places (length m.units)) in
    let loads : Fraction = sum_by (λ i. bus_price m d i *ℚ demand m i) (places (length m.buses)) in
    let of_x : Fraction = sum_by (λ j. unit_price m d (block_at m j).unit *ℚ raised_by m x j) (places (length m.blocks)) in
    let of_y : Fraction = sum_by (λ j. unit_price m d (block_at m j).unit *ℚ raised_by m y j) (places (length m.blocks)) in
    subst₂ ◌≤ℚ◌ (sym (welfare-by_parts m y h)) (sym (welfare-by_parts m x h))
    (by_le2 (value_of_blocks m y ∷ value_of_blocks m x ∷ of_x ∷ of_y ∷ units ∷ loads ∷ row_penalties m x ∷ row_penalties m y ∷ cost_of_reserve m x ∷ cost_of_reserve m y ∷ [])
    ((at 0 ⊕ pneg (at 7)) ⊕ pneg (at 9)) ((at 1 ⊕ pneg (at 6)) ⊕ pneg (at 8))
    pone ((at 0 ⊕ at 3) ⊕ pneg (at 9)) ((at 1 ⊕ at 2) ⊕ pneg (at 8)) pone (((at 4 ⊕ at 2) ⊕ pneg (at 5)) ⊕ at 6) (((at 4 ⊕ at 3) ⊕ pneg (at 5)) ⊕ at 7)
    NonNeg-one (greatest_gains m d x y h s fy) NonNeg-one (priced_raises m d x y h fx s fy) refl)

-- the surplus is the opposite of the outputs at the prices of units, less demands at those of buses
pub surplus-by_outputs : (m : Parts) (d : Duals Fraction) (x : Dispatch)
    → surplus m x d ≡ neg_ℚ (sum_by (λ u. unit_price m d u *ℚ output m x u) (places (length m.units)) -ℚ sum_by (λ i. bus_price m d i *ℚ demand m i) (places (length m.buses)))
unfolding surplus unit_price
surplus-by_outputs m d x =
    let loads : Fraction = sum_by (λ i. bus_price m d i *ℚ demand m i) (places (length m.buses)) in
    let units : Fraction = sum_by (λ u. unit_price m d u *ℚ output m x u) (places (length m.units)) in
    ap total (surplus_terms-made m x (bus_price m d) d)
    ∙ total-append (map (λ i. Plain (bus_price m d i *ℚ demand m i)) (places (length m.buses))) (map (λ u. Plain (neg_ℚ (unit_price m d u *ℚ output m x u))) (places (length m.units)))
    ∙ ap₂ ◌+ℚ◌ (total-Plain (λ i. bus_price m d i *ℚ demand m i) (places (length m.buses)))
    (total-Plain (λ u. neg_ℚ (unit_price m d u *ℚ output m x u)) (places (length m.units)) ∙ sum_by-neg (λ u. unit_price m d u *ℚ output m x u) (places (length m.units)))
    ∙ by_ring ring_ℚ (loads ∷ units ∷ []) (at 0 ⊕ pneg (at 1)) (pneg (at 1 ⊕ pneg (at 0))) refl

-- in balance the surplus is what the rows net_shadow_price
pub surplus-by_pulls : (m : Parts) (d : Duals Fraction) (x : Dispatch) → IsMarket m → balance m x ≡ whole (pos 0) → surplus m x d ≡ row_prices m d x
surplus-by_pulls m d x h e =
    surplus-by_outputs m d x ∙ ap neg_ℚ (priced-balanced m h d x e) ∙ by_ring ring_ℚ (row_prices m d x ∷ []) (pneg (pneg (at 0))) (at 0) refl

pub law_of_the_surplus : LawOfTheSurplus
law_of_the_surplus m d x h f s = surplus-by_pulls m d x h f.balanced ∙ row_prices-rents m h d x s

pub law_of_its_sign : LawOfItsSign
law_of_its_sign m d x h f s within = subst (λ t. whole (pos 0) ≤ℚ t) (sym (law_of_the_surplus m d x h f s)) (rents-sign m h d x s within)

pub law_of_no_limits : LawOfNoLimits
law_of_no_limits m d x h none e =
    surplus-by_pulls m d x h e ∙ ap (λ (rs : List Row). sum_by (λ r. net_shadow_price m d r *ℚ (flow m x r -ℚ row_offset m r)) rs) none
