-- Farkas duals leave no dispatch feasible.
use Rattle.std.specs.Prelude.{◌≡◌, Bool, true, false, List, [], ◌∷◌, ◌++◌, length, map, if◌then◌else◌, refl}
use Rattle.std.specs.List.{flat_map}
use Rattle.std.proofs.Common.{ap, sym, ◌∙◌, subst, subst₂}
use mathlib.Core.Path.{ap₂}
use Rattle.fraction_theory.specs.Fraction.{Fraction, ◌+ℚ◌, ◌-ℚ◌, ◌*ℚ◌, neg_ℚ}
use Rattle.fraction_theory.specs.Order.{◌≤ℚ◌}
use Rattle.fraction_theory.specs.Signs.{part_above}
use Rattle.fraction_theory.specs.Sums.{Term, Product, sum_by, total}
use Rattle.fraction_theory.proofs.Ring.{by_ring, by_ring1, by_ring3, at, pnil, pone, pneg, ◌⊕◌, ◌⊗◌}
use Rattle.fraction_theory.proofs.FieldLaws.{ring_ℚ}
use Rattle.fraction_theory.proofs.OrderLaws.{by_le2, ≤ℚ_refl, ≤ℚ_trans, +ℚ-≤ℚ, <ℚ-not-≤ℚ, NonNeg_from, NonNeg-one}
use Rattle.fraction_theory.proofs.SignLaws.{part_least}
use Rattle.fraction_theory.proofs.SumLaws.{sum_by-≤, sum_by-same, sum_by-plus, sum_by-nil, total-append, total-Product}
use Rattle.market_model.specs.declared.participants.Parts.{Parts}
use Rattle.market_model.specs.declared.participants.Side.{Side}
use Rattle.market_model.specs.declared.participants.Side.TheVariants.{Sell, Buy}
use Rattle.market_model.specs.declared.answered.Duals.{Duals}
use Rattle.market_model.specs.Dispatch.{Dispatch, zero, places, block_at, signed_by_side, accepted, quantity, reserved, reserve_quantity, raised_by, demand, balance, empty}
use Rattle.market_model.specs.Optimality.{Feasible, up_of, down_of, net_shadow_price, bus_price, unit_price, energy_worth, room_price}
use Rattle.market_model.specs.declared.limits.Row.{Row}
use Rattle.market_model.specs.LimitRows.{rows, flow, row_offset, most_flow}
use Rattle.market_model.specs.Market.{IsMarket}
use Rattle.market_model.specs.Infeasibility.{ShowsInfeasible, block_most, block_weight, offer_most, offer_weight, limit_terms, reserve_left_terms, nothing_terms, farkas_terms, farkas_bound}
use Rattle.market_model.specs.Reserves.{no_reserve, offer_places, reserve, reserve_need, reserve_units, room}
use Rattle.market_model.specs.Laws.{LawOfInfeasibility}
use Rattle.market_model.proofs.EnergyAlone.{no_need, farkas_terms_alone, nothing_terms_alone}
use Rattle.market_model.proofs.PlaceSums.{places_all}
use Rattle.market_model.proofs.MarketSums.{fixed_part, raised_by-empty, priced_outputs-by_parts}
use Rattle.market_model.proofs.ReserveSums.{rooms_taken, energy_made, reserve_made, made-by_parts, whole_rooms, reserve-at_least, rooms-at_most}
use Rattle.market_model.proofs.RowLaws.{along, row_prices, priced-by_rows, rent_sign}

-- a block makes no more than the greater of its weight and 0 makes of all that it has
pub weight-most : (w x q : Fraction) → zero ≤ℚ x → x ≤ℚ q → (w *ℚ x) ≤ℚ (part_above w *ℚ q)
weight-most w x q low high =
    by_le2 (w ∷ part_above w ∷ x ∷ q ∷ []) (at 0 ⊗ at 2) (at 1 ⊗ at 3) (at 1) (at 2) (at 3) (at 2) (at 0) (at 1)
    (NonNeg_from (part_above w) (part_least w).0) high (NonNeg_from x low) (part_least w).1 refl

weight_signed : (side : Side) (e x : Fraction) → signed_by_side side e *ℚ x ≡ e *ℚ signed_by_side side x
weight_signed Sell e x = refl
weight_signed Buy e x = by_ring ring_ℚ (e ∷ x ∷ []) (pneg (at 0) ⊗ at 1) (at 0 ⊗ pneg (at 1)) refl

-- what the blocks make is what they raise, at the worth of their units' energy
weights-by_raises : (m : Parts) (d : Duals Fraction) (x : Dispatch) → sum_by (λ j. block_weight m d j *ℚ accepted x j) (places (length m.blocks)) ≡ energy_made m d x
weights-by_raises m d x =
    sum_by-same (λ j. block_weight m d j *ℚ accepted x j) (λ j. energy_worth m d (block_at m j).unit *ℚ raised_by m x j) (places (length m.blocks))
    (λ j. weight_signed (block_at m j).side (energy_worth m d (block_at m j).unit) (accepted x j))

-- what the flow of a row leaves of the most that it may be, at its prices
abbrev pub left_of : Parts → Duals Fraction → Dispatch → Row → Fraction
left_of m d x r = up_of m d r *ℚ (most_flow m r -ℚ flow m x r) +ℚ (down_of m d r *ℚ (most_flow m r +ℚ flow m x r) +ℚ zero)

-- the total of lists one behind the other
pub total-flat_map : {T : Type 0} (f : T → List Term) (xs : List T) → total (flat_map f xs) ≡ sum_by (λ x. total (f x)) xs
total-flat_map f [] = refl
total-flat_map f (x ∷ xs) = total-append (f x) (flat_map f xs) ∙ ap (λ t. total (f x) +ℚ t) (total-flat_map f xs)

-- what no reserve leaves of the need, and whole rooms, at their prices
abbrev pub reserve_left : Parts → Duals Fraction → Fraction
reserve_left m d = neg_ℚ (d.reserve *ℚ reserve_need m) +ℚ whole_rooms m d

-- where no reserve is cleared, none is needed
need_left : (m : Parts) (d : Duals Fraction) → IsMarket m → total (if m.reserve.listed then Product d.reserve (neg_ℚ (reserve_need m)) ∷ [] else []) ≡ neg_ℚ (d.reserve *ℚ reserve_need m)
need_left m d h = by_test m.reserve.listed refl
  where
    by_test : (b : Bool) → m.reserve.listed ≡ b → total (if b then Product d.reserve (neg_ℚ (reserve_need m)) ∷ [] else []) ≡ neg_ℚ (d.reserve *ℚ reserve_need m)
    by_test true e = by_ring ring_ℚ (d.reserve ∷ reserve_need m ∷ []) (at 0 ⊗ pneg (at 1) ⊕ pnil) (pneg (at 0 ⊗ at 1)) refl
    by_test false e = by_ring1 ring_ℚ (d.reserve ∷ reserve_need m ∷ []) pnil (pneg (at 0 ⊗ at 1)) (at 0) (at 1) pnil (no_need m (h.reserve.unlisted e)) refl

reserve_left-by_parts : (m : Parts) (d : Duals Fraction) → IsMarket m → total (reserve_left_terms m d) ≡ reserve_left m d
reserve_left-by_parts m d h =
    total-append (if m.reserve.listed then Product d.reserve (neg_ℚ (reserve_need m)) ∷ [] else []) (map (λ u. Product (room_price m d u) (room m u)) (reserve_units m))
    ∙ ap₂ ◌+ℚ◌ (need_left m d h) (total-Product (room_price m d) (room m) (reserve_units m))

-- the most that blocks add to the bound, and offers of reserve
abbrev pub blocks_most : Parts → Duals Fraction → Fraction
blocks_most m d = sum_by (λ j. part_above (block_weight m d j) *ℚ quantity m j) (places (length m.blocks))

abbrev pub offers_most : Parts → Duals Fraction → Fraction
offers_most m d = sum_by (λ n. part_above (offer_weight m d n) *ℚ reserve_quantity m n) (offer_places m)

pub farkas_bound-by_parts : (m : Parts) (d : Duals Fraction) → IsMarket m
    → farkas_bound m d ≡ ((d.energy *ℚ balance m (empty m) +ℚ sum_by (left_of m d (empty m)) (rows m)) +ℚ reserve_left m d) +ℚ (blocks_most m d +ℚ offers_most m d)
unfolding farkas_bound
farkas_bound-by_parts m d h =
    total-append (nothing_terms m d ++ map (block_most m d) (places (length m.blocks))) (map (offer_most m d) (offer_places m))
    ∙ ap₂ ◌+ℚ◌
    (total-append (nothing_terms m d) (map (block_most m d) (places (length m.blocks)))
    ∙ ap₂ ◌+ℚ◌
    (total-append (Product d.energy (balance m (empty m)) ∷ flat_map (limit_terms m d) (rows m)) (reserve_left_terms m d)
    ∙ ap₂ ◌+ℚ◌ (ap (λ t. d.energy *ℚ balance m (empty m) +ℚ t) (total-flat_map (limit_terms m d) (rows m))) (reserve_left-by_parts m d h))
    (total-Product (λ j. part_above (block_weight m d j)) (quantity m) (places (length m.blocks))))
    (total-Product (λ n. part_above (offer_weight m d n)) (reserve_quantity m) (offer_places m))
    ∙ ring_ℚ.plus_assoc ((d.energy *ℚ balance m (empty m) +ℚ sum_by (left_of m d (empty m)) (rows m)) +ℚ reserve_left m d) (blocks_most m d) (offers_most m d)

-- in a market of energy alone
pub farkas_bound-alone : (m : Parts) (d : Duals Fraction) → m.reserve ≡ no_reserve
    → farkas_bound m d ≡ d.energy *ℚ balance m (empty m) +ℚ (sum_by (left_of m d (empty m)) (rows m) +ℚ blocks_most m d)
unfolding farkas_bound
farkas_bound-alone m d alone =
    ap total (farkas_terms_alone m alone d ∙ ap (λ (ts : List Term). ts ++ map (block_most m d) (places (length m.blocks))) (nothing_terms_alone m alone d))
    ∙ ap (λ t. d.energy *ℚ balance m (empty m) +ℚ t)
    (total-append (flat_map (limit_terms m d) (rows m)) (map (block_most m d) (places (length m.blocks)))
    ∙ ap₂ ◌+ℚ◌ (total-flat_map (limit_terms m d) (rows m)) (total-Product (λ j. part_above (block_weight m d j)) (quantity m) (places (length m.blocks))))

-- and where besides no line has a limit
pub farkas_terms-bare : (m : Parts) (d : Duals Fraction) → rows m ≡ [] → m.reserve ≡ no_reserve
    → farkas_terms m d ≡ Product d.energy (balance m (empty m)) ∷ map (block_most m d) (places (length m.blocks))
farkas_terms-bare m d bare alone =
    farkas_terms_alone m alone d
    ∙ ap (λ (ts : List Term). ts ++ map (block_most m d) (places (length m.blocks)))
    (nothing_terms_alone m alone d ∙ ap (λ (rs : List Row). Product d.energy (balance m (empty m)) ∷ flat_map (limit_terms m d) rs) bare)

pub farkas_bound-by_blocks : (m : Parts) (d : Duals Fraction) → rows m ≡ [] → m.reserve ≡ no_reserve → farkas_bound m d ≡ d.energy *ℚ balance m (empty m) +ℚ blocks_most m d
farkas_bound-by_blocks m d bare alone =
    farkas_bound-alone m d alone
    ∙ ap (λ (rs : List Row). d.energy *ℚ balance m (empty m) +ℚ (sum_by (left_of m d (empty m)) rs +ℚ blocks_most m d)) bare
    ∙ ap (λ t. d.energy *ℚ balance m (empty m) +ℚ t) (by_ring ring_ℚ (blocks_most m d ∷ []) (pnil ⊕ at 0) (at 0) refl)

-- what is left and what rows count at their net prices come to the same for all dispatches
left-and-row_prices : (m : Parts) (d : Duals Fraction) (x y : Dispatch) → sum_by (left_of m d x) (rows m) +ℚ row_prices m d x ≡ sum_by (left_of m d y) (rows m) +ℚ row_prices m d y
left-and-row_prices m d x y = to_fixed x ∙ sym (to_fixed y)
  where
    fixed : Row → Fraction
    fixed r = (up_of m d r +ℚ down_of m d r) *ℚ most_flow m r -ℚ net_shadow_price m d r *ℚ row_offset m r

    to_fixed : (z : Dispatch) → sum_by (left_of m d z) (rows m) +ℚ row_prices m d z ≡ sum_by (λ r. (up_of m d r +ℚ down_of m d r) *ℚ most_flow m r -ℚ net_shadow_price m d r *ℚ row_offset m r) (rows m)
    to_fixed z =
        sym (sum_by-plus (left_of m d z) (λ r. net_shadow_price m d r *ℚ (flow m z r -ℚ row_offset m r)) (rows m))
        ∙ sum_by-same (λ r. left_of m d z r +ℚ net_shadow_price m d r *ℚ (flow m z r -ℚ row_offset m r)) (λ r. (up_of m d r +ℚ down_of m d r) *ℚ most_flow m r -ℚ net_shadow_price m d r *ℚ row_offset m r) (rows m)
        (λ r. by_ring ring_ℚ (up_of m d r ∷ down_of m d r ∷ most_flow m r ∷ flow m z r ∷ row_offset m r ∷ [])
        ((at 0 ⊗ (at 2 ⊕ pneg (at 3)) ⊕ (at 1 ⊗ (at 2 ⊕ at 3) ⊕ pnil)) ⊕ (at 0 ⊕ pneg (at 1)) ⊗ (at 3 ⊕ pneg (at 4)))
        ((at 0 ⊕ at 1) ⊗ at 2 ⊕ pneg ((at 0 ⊕ pneg (at 1)) ⊗ at 4)) refl)

-- what blocks raise at the prices of their units, by what is priced and what rows count
raises-by_rows : (m : Parts) (d : Duals Fraction) (x : Dispatch) → IsMarket m
    → sum_by (λ j. unit_price m d (block_at m j).unit *ℚ raised_by m x j) (places (length m.blocks))
    ≡ (d.energy *ℚ balance m x -ℚ row_prices m d x) -ℚ (d.energy *ℚ balance m (empty m) -ℚ row_prices m d (empty m))
raises-by_rows m d x h =
    let units : Fraction = sum_by (λ u. unit_price m d u *ℚ fixed_part m u) (places (length m.units)) in
    let loads : Fraction = sum_by (λ i. bus_price m d i *ℚ demand m i) (places (length m.buses)) in
    let of_x : Fraction = sum_by (λ j. unit_price m d (block_at m j).unit *ℚ raised_by m x j) (places (length m.blocks)) in
    let of_none : Fraction = sum_by (λ j. unit_price m d (block_at m j).unit *ℚ raised_by m (empty m) j) (places (length m.blocks)) in
    let none : sum_by (λ j. unit_price m d (block_at m j).unit *ℚ raised_by m (empty m) j) (places (length m.blocks)) ≡ zero =
    sum_by-same (λ j. unit_price m d (block_at m j).unit *ℚ raised_by m (empty m) j) (λ j. zero) (places (length m.blocks))
    (λ j. ap (λ t. unit_price m d (block_at m j).unit *ℚ t) (raised_by-empty m j) ∙ by_ring ring_ℚ (unit_price m d (block_at m j).unit ∷ []) (at 0 ⊗ pnil) pnil refl)
    ∙ sum_by-nil (places (length m.blocks)) in
    by_ring3 ring_ℚ (of_x ∷ of_none ∷ units ∷ loads ∷ (d.energy *ℚ balance m x -ℚ row_prices m d x) ∷ (d.energy *ℚ balance m (empty m) -ℚ row_prices m d (empty m)) ∷ [])
    (at 0) (at 4 ⊕ pneg (at 5))
    (pneg pone) (at 4) ((at 2 ⊕ at 0) ⊕ pneg (at 3))
    pone (at 5) ((at 2 ⊕ at 1) ⊕ pneg (at 3))
    pone (at 1) pnil
    (by_parts x) (by_parts (empty m))
    none refl
  where
    by_parts : (z : Dispatch) → d.energy *ℚ balance m z -ℚ row_prices m d z
        ≡ (sum_by (λ u. unit_price m d u *ℚ fixed_part m u) (places (length m.units)) +ℚ sum_by (λ j. unit_price m d (block_at m j).unit *ℚ raised_by m z j) (places (length m.blocks)))
        -ℚ sum_by (λ i. bus_price m d i *ℚ demand m i) (places (length m.buses))
    by_parts z = sym (priced-by_rows m h d z) ∙ ap (λ t. t -ℚ sum_by (λ i. bus_price m d i *ℚ demand m i) (places (length m.buses))) (priced_outputs-by_parts m z (unit_price m d) h)

-- what blocks and offers make, with reserve at its price and less what is used of rooms
weights-by_rows : (m : Parts) (d : Duals Fraction) (x : Dispatch) → IsMarket m
    → sum_by (λ j. block_weight m d j *ℚ accepted x j) (places (length m.blocks)) +ℚ sum_by (λ n. offer_weight m d n *ℚ reserved x n) (offer_places m)
    ≡ (((d.energy *ℚ balance m x -ℚ row_prices m d x) -ℚ (d.energy *ℚ balance m (empty m) -ℚ row_prices m d (empty m))) +ℚ d.reserve *ℚ reserve m x) -ℚ rooms_taken m d x
weights-by_rows m d x h =
    ap (λ t. t +ℚ reserve_made m d x) (weights-by_raises m d x)
    ∙ made-by_parts m d x h
    ∙ ap (λ t. (t +ℚ d.reserve *ℚ reserve m x) -ℚ rooms_taken m d x) (raises-by_rows m d x h)

-- what a feasible dispatch makes of reserve beyond the need, and what it leaves of rooms, at their prices
some_reserve_left : (m : Parts) (d : Duals Fraction) (x : Dispatch) → ShowsInfeasible m d → Feasible m x → zero ≤ℚ ((d.reserve *ℚ reserve m x -ℚ rooms_taken m d x) +ℚ reserve_left m d)
some_reserve_left m d x shows f =
    by_le2 ((d.reserve *ℚ reserve m x) ∷ rooms_taken m d x ∷ (d.reserve *ℚ reserve_need m) ∷ whole_rooms m d ∷ []) pnil ((at 0 ⊕ pneg (at 1)) ⊕ (pneg (at 2) ⊕ at 3))
    pone (at 2) (at 0) pone (at 1) (at 3)
    NonNeg-one (reserve-at_least m x d f shows.need_sign) NonNeg-one (rooms-at_most m x d f shows.room_signs) refl

pub law_of_infeasibility : LawOfInfeasibility
law_of_infeasibility m d x h shows f =
    let p : Fraction = d.energy *ℚ balance m (empty m) in
    let left : Fraction = sum_by (left_of m d x) (rows m) in
    let left_none : Fraction = sum_by (left_of m d (empty m)) (rows m) in
    let left_of_reserve : Fraction = (d.reserve *ℚ reserve m x -ℚ rooms_taken m d x) +ℚ reserve_left m d in
    let nothing : Fraction = (p +ℚ left_none) +ℚ reserve_left m d in
    let weights : Fraction = sum_by (λ j. block_weight m d j *ℚ accepted x j) (places (length m.blocks)) in
    let offer_weights : Fraction = sum_by (λ n. offer_weight m d n *ℚ reserved x n) (offer_places m) in
    let most = sum_by-≤ (λ j. block_weight m d j *ℚ accepted x j) (λ j. part_above (block_weight m d j) *ℚ quantity m j) (places (length m.blocks))
    (places_all (λ j. (block_weight m d j *ℚ accepted x j) ≤ℚ (part_above (block_weight m d j) *ℚ quantity m j)) (length m.blocks)
    (λ j lt. weight-most (block_weight m d j) (accepted x j) (quantity m j) (f.blocks.above j lt) (f.blocks.within j lt))) in
    let most_of_offers = sum_by-≤ (λ n. offer_weight m d n *ℚ reserved x n) (λ n. part_above (offer_weight m d n) *ℚ reserve_quantity m n) (offer_places m)
    (places_all (λ n. (offer_weight m d n *ℚ reserved x n) ≤ℚ (part_above (offer_weight m d n) *ℚ reserve_quantity m n)) (length m.reserve.offers)
    (λ n lt. weight-most (offer_weight m d n) (reserved x n) (reserve_quantity m n) (f.blocks.reserve_above n lt) (f.blocks.reserve_within n lt))) in
    let some_left : zero ≤ℚ sum_by (left_of m d x) (rows m) =
    subst (λ t. t ≤ℚ sum_by (left_of m d x) (rows m)) (sum_by-nil (rows m))
    (sum_by-≤ (λ r. zero) (left_of m d x) (rows m) (along (λ r. zero ≤ℚ left_of m d x r) (rows m)
    (λ r c. let w = f.limits r c in rent_sign (up_of m d r) (down_of m d r) (most_flow m r) (flow m x r) (shows.up_signs r c) (shows.down_signs r c) (λ a. w.below) (λ a. w.above)))) in
    let all_left : zero ≤ℚ (left +ℚ left_of_reserve) =
    by_le2 (left ∷ left_of_reserve ∷ []) pnil (at 0 ⊕ at 1) pone pnil (at 0) pone pnil (at 1) NonNeg-one some_left NonNeg-one (some_reserve_left m d x shows f) refl in
    let made : nothing +ℚ (weights +ℚ offer_weights) ≡ left +ℚ left_of_reserve =
    by_ring3 ring_ℚ (p ∷ left_none ∷ weights ∷ left ∷ row_prices m d x ∷ row_prices m d (empty m) ∷ d.energy ∷ balance m x ∷ offer_weights ∷ (d.reserve *ℚ reserve m x) ∷ rooms_taken m d x ∷ reserve_left m d ∷ [])
    (((at 0 ⊕ at 1) ⊕ at 11) ⊕ (at 2 ⊕ at 8)) (at 3 ⊕ ((at 9 ⊕ pneg (at 10)) ⊕ at 11))
    pone (at 2 ⊕ at 8) ((((at 6 ⊗ at 7 ⊕ pneg (at 4)) ⊕ pneg (at 0 ⊕ pneg (at 5))) ⊕ at 9) ⊕ pneg (at 10))
    (pneg pone) (at 3 ⊕ at 4) (at 1 ⊕ at 5)
    (at 6) (at 7) pnil
    (weights-by_rows m d x h) (left-and-row_prices m d x (empty m)) f.balanced refl in
    let within : zero ≤ℚ farkas_bound m d =
    ≤ℚ_trans zero (left +ℚ left_of_reserve) (farkas_bound m d) all_left
    (subst₂ ◌≤ℚ◌ made (sym (farkas_bound-by_parts m d h))
    (+ℚ-≤ℚ nothing nothing _ _ (≤ℚ_refl nothing) (+ℚ-≤ℚ weights (blocks_most m d) offer_weights (offers_most m d) most most_of_offers))) in
    <ℚ-not-≤ℚ (farkas_bound m d) zero shows.below within
