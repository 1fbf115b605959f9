-- A market's sums: injections, balance and outputs by fixed parts, blocks and demands.
use Rattle.std.specs.Prelude.{◌≡◌, ℕ, ◌<◌, pos, ◌+ℤ◌, List, [], ◌∷◌, ◌++◌, length, map, slice_index_or, replicate, refl}
use Rattle.std.proofs.Common.{zero, suc, ap, sym, ◌∙◌, subst}
use mathlib.Core.Path.{ap₂}
use Rattle.fraction_theory.specs.Fraction.{Fraction, whole, ◌+ℚ◌, ◌-ℚ◌, ◌*ℚ◌, neg_ℚ}
use Rattle.fraction_theory.specs.Order.{◌≤ℚ◌}
use Rattle.fraction_theory.specs.Sums.{sum_by, Plain}
use Rattle.fraction_theory.proofs.Ring.{by_ring, by_ring1, at, pnil, pone, pneg, ◌⊕◌, ◌⊗◌}
use Rattle.fraction_theory.proofs.FieldLaws.{ring_ℚ, whole-+ℚ}
use Rattle.fraction_theory.proofs.OrderLaws.{by_le1, NonNeg-one}
use Rattle.fraction_theory.proofs.SumLaws.{sum_by-plus, sum_by-nil, sum_by-same, sum_by-times, sum_by-≤, total-append, total-Plain}
use Rattle.market_model.specs.declared.participants.Side.{Side}
use Rattle.market_model.specs.declared.participants.Side.TheVariants.{Sell, Buy}
use Rattle.market_model.specs.declared.participants.Parts.{Parts}
use Rattle.market_data.specs.Participants.{IsUnit}
use Rattle.market_model.specs.Market.{IsMarket, IsBlock}
use Rattle.market_model.specs.Dispatch.{Dispatch, IsDispatch, places, bus_at, unit_at, block_at, block_bus, signed_by_side, accepted, quantity, empty, raised_by, units_at, blocks_at, blocks_of, fixed_term, block_term, injection, balance, output, demand}
use Rattle.market_model.proofs.PlaceSums.{places_all, gather, gather_times, sum_by-places, sum_in_step, sum_in_step-places}

-- places in range
pub unit_bus-in : (m : Parts) → IsMarket m → (u : ℕ) → u < length m.units → (unit_at m u).bus < length m.buses
unit_bus-in m h u lt = let r : IsUnit (length m.buses) (unit_at m u) = h.units u _ lt in r.bus

pub block_unit-in : (m : Parts) → IsMarket m → (j : ℕ) → j < length m.blocks → (block_at m j).unit < length m.units
block_unit-in m h j lt = let r : IsBlock (length m.units) (block_at m j) = h.blocks j _ lt in r.unit

pub block_bus-in : (m : Parts) → IsMarket m → (j : ℕ) → j < length m.blocks → block_bus m j < length m.buses
block_bus-in m h j lt = unit_bus-in m h (block_at m j).unit (block_unit-in m h j lt)

-- the opposite of a sum
pub sum_by-neg : {T : Type 0} (f : T → Fraction) (xs : List T) → sum_by (λ x. neg_ℚ (f x)) xs ≡ neg_ℚ (sum_by f xs)
sum_by-neg f [] = by_ring ring_ℚ [] pnil (pneg pnil) refl
sum_by-neg f (x ∷ xs) = ap (λ t. neg_ℚ (f x) +ℚ t) (sum_by-neg f xs) ∙ by_ring ring_ℚ (f x ∷ sum_by f xs ∷ []) (pneg (at 0) ⊕ pneg (at 1)) (pneg (at 0 ⊕ at 1)) refl

pub sum_by-minus : {T : Type 0} (f g : T → Fraction) (xs : List T) → sum_by (λ x. f x -ℚ g x) xs ≡ sum_by f xs -ℚ sum_by g xs
sum_by-minus f g xs = sum_by-plus f (λ x. neg_ℚ (g x)) xs ∙ ap (λ t. sum_by f xs +ℚ t) (sum_by-neg g xs)

-- the fixed part of a unit
abbrev pub fixed_part : Parts → ℕ → Fraction
fixed_part m u = whole (unit_at m u).fixed

-- a bus's injection: the fixed parts of its units, what its blocks raise, less its demand
pub injection-by_parts : (m : Parts) (x : Dispatch) (i : ℕ) → injection m x i ≡ (sum_by (fixed_part m) (units_at m i) +ℚ sum_by (raised_by m x) (blocks_at m i)) -ℚ demand m i
unfolding injection demand
injection-by_parts m x i =
    let pd : Fraction = whole (bus_at m i).pd in
    let gs : Fraction = whole (bus_at m i).gs in
    let units : Fraction = sum_by (fixed_part m) (units_at m i) in
    let blocks : Fraction = sum_by (raised_by m x) (blocks_at m i) in
    total-append (map (fixed_term m) (units_at m i) ++ map (block_term m x) (blocks_at m i)) (Plain (neg_ℚ pd) ∷ Plain (neg_ℚ gs) ∷ [])
    ∙ ap (λ t. t +ℚ (neg_ℚ pd +ℚ (neg_ℚ gs +ℚ whole (pos 0))))
    (total-append (map (fixed_term m) (units_at m i)) (map (block_term m x) (blocks_at m i))
    ∙ ap₂ ◌+ℚ◌ (total-Plain (fixed_part m) (units_at m i)) (total-Plain (raised_by m x) (blocks_at m i)))
    ∙ by_ring ring_ℚ (units ∷ blocks ∷ pd ∷ gs ∷ []) ((at 0 ⊕ at 1) ⊕ (pneg (at 2) ⊕ (pneg (at 3) ⊕ pnil))) ((at 0 ⊕ at 1) ⊕ pneg (at 2 ⊕ (at 3 ⊕ pnil))) refl

-- a unit's output: its fixed part and what its blocks raise
pub output-by_parts : (m : Parts) (x : Dispatch) (u : ℕ) → output m x u ≡ fixed_part m u +ℚ sum_by (raised_by m x) (blocks_of m u)
unfolding output
output-by_parts m x u = ap (λ t. fixed_part m u +ℚ t) (total-Plain (raised_by m x) (blocks_of m u))

pub balance-by_injections : (m : Parts) (x : Dispatch) → balance m x ≡ sum_by (injection m x) (places (length m.buses))
unfolding balance
balance-by_injections m x = total-Plain (injection m x) (places (length m.buses))

-- the balance: all fixed parts, what all blocks raise, less all demands
pub balance-by_parts : (m : Parts) (x : Dispatch) → IsMarket m
    → balance m x ≡ (sum_by (fixed_part m) (places (length m.units)) +ℚ sum_by (raised_by m x) (places (length m.blocks))) -ℚ sum_by (demand m) (places (length m.buses))
balance-by_parts m x h =
    let buses : List ℕ = places (length m.buses) in
    balance-by_injections m x
    ∙ sum_by-same (injection m x) (λ i. (sum_by (fixed_part m) (units_at m i) +ℚ sum_by (raised_by m x) (blocks_at m i)) -ℚ demand m i) buses (injection-by_parts m x)
    ∙ sum_by-plus (λ i. sum_by (fixed_part m) (units_at m i) +ℚ sum_by (raised_by m x) (blocks_at m i)) (λ i. neg_ℚ (demand m i)) buses
    ∙ ap₂ ◌+ℚ◌
    (sum_by-plus (λ i. sum_by (fixed_part m) (units_at m i)) (λ i. sum_by (raised_by m x) (blocks_at m i)) buses
    ∙ ap₂ ◌+ℚ◌
    (gather (λ i. fixed_part m) (λ u. (unit_at m u).bus) (length m.buses) (places (length m.units)) (places_all (λ u. (unit_at m u).bus < length m.buses) (length m.units) (unit_bus-in m h)))
    (gather (λ i. raised_by m x) (block_bus m) (length m.buses) (places (length m.blocks)) (places_all (λ j. block_bus m j < length m.buses) (length m.blocks) (block_bus-in m h))))
    (sum_by-neg (demand m) buses)

-- injections, each at a price of its bus: fixed parts and blocks at the price of their bus, less demands
pub priced_injections-by_parts : (m : Parts) (x : Dispatch) (price : ℕ → Fraction) → IsMarket m
    → sum_by (λ i. price i *ℚ injection m x i) (places (length m.buses))
    ≡ (sum_by (λ u. price (unit_at m u).bus *ℚ fixed_part m u) (places (length m.units)) +ℚ sum_by (λ j. price (block_bus m j) *ℚ raised_by m x j) (places (length m.blocks)))
    -ℚ sum_by (λ i. price i *ℚ demand m i) (places (length m.buses))
priced_injections-by_parts m x price h =
    let buses : List ℕ = places (length m.buses) in
    sum_by-same (λ i. price i *ℚ injection m x i)
    (λ i. (price i *ℚ sum_by (fixed_part m) (units_at m i) +ℚ price i *ℚ sum_by (raised_by m x) (blocks_at m i)) -ℚ price i *ℚ demand m i) buses
    (λ i. ap (λ t. price i *ℚ t) (injection-by_parts m x i)
    ∙ by_ring ring_ℚ (price i ∷ sum_by (fixed_part m) (units_at m i) ∷ sum_by (raised_by m x) (blocks_at m i) ∷ demand m i ∷ [])
    (at 0 ⊗ ((at 1 ⊕ at 2) ⊕ pneg (at 3))) ((at 0 ⊗ at 1 ⊕ at 0 ⊗ at 2) ⊕ pneg (at 0 ⊗ at 3)) refl)
    ∙ sum_by-plus (λ i. price i *ℚ sum_by (fixed_part m) (units_at m i) +ℚ price i *ℚ sum_by (raised_by m x) (blocks_at m i)) (λ i. neg_ℚ (price i *ℚ demand m i)) buses
    ∙ ap₂ ◌+ℚ◌
    (sum_by-plus (λ i. price i *ℚ sum_by (fixed_part m) (units_at m i)) (λ i. price i *ℚ sum_by (raised_by m x) (blocks_at m i)) buses
    ∙ ap₂ ◌+ℚ◌
    (gather_times price (fixed_part m) (λ u. (unit_at m u).bus) (length m.buses) (places (length m.units)) (places_all (λ u. (unit_at m u).bus < length m.buses) (length m.units) (unit_bus-in m h)))
    (gather_times price (raised_by m x) (block_bus m) (length m.buses) (places (length m.blocks)) (places_all (λ j. block_bus m j < length m.buses) (length m.blocks) (block_bus-in m h))))
    (sum_by-neg (λ i. price i *ℚ demand m i) buses)

-- outputs, each at a price of its unit
pub priced_outputs-by_parts : (m : Parts) (x : Dispatch) (price : ℕ → Fraction) → IsMarket m
    → sum_by (λ u. price u *ℚ output m x u) (places (length m.units))
    ≡ sum_by (λ u. price u *ℚ fixed_part m u) (places (length m.units)) +ℚ sum_by (λ j. price (block_at m j).unit *ℚ raised_by m x j) (places (length m.blocks))
priced_outputs-by_parts m x price h =
    let units : List ℕ = places (length m.units) in
    sum_by-same (λ u. price u *ℚ output m x u) (λ u. price u *ℚ fixed_part m u +ℚ price u *ℚ sum_by (raised_by m x) (blocks_of m u)) units
    (λ u. ap (λ t. price u *ℚ t) (output-by_parts m x u) ∙ ring_ℚ.times_plus (price u) (fixed_part m u) (sum_by (raised_by m x) (blocks_of m u)))
    ∙ sum_by-plus (λ u. price u *ℚ fixed_part m u) (λ u. price u *ℚ sum_by (raised_by m x) (blocks_of m u)) units
    ∙ ap (λ t. sum_by (λ u. price u *ℚ fixed_part m u) units +ℚ t)
    (gather_times price (raised_by m x) (λ j. (block_at m j).unit) (length m.units) (places (length m.blocks)) (places_all (λ j. (block_at m j).unit < length m.units) (length m.blocks) (block_unit-in m h)))

-- injections at bus prices are outputs at the prices of their buses less demands
pub priced_injections-by_outputs : (m : Parts) (x : Dispatch) (price : ℕ → Fraction) → IsMarket m
    → sum_by (λ i. price i *ℚ injection m x i) (places (length m.buses))
    ≡ sum_by (λ u. price (unit_at m u).bus *ℚ output m x u) (places (length m.units)) -ℚ sum_by (λ i. price i *ℚ demand m i) (places (length m.buses))
priced_injections-by_outputs m x price h =
    priced_injections-by_parts m x price h
    ∙ ap (λ t. t -ℚ sum_by (λ i. price i *ℚ demand m i) (places (length m.buses))) (sym (priced_outputs-by_parts m x (λ u. price (unit_at m u).bus) h))

-- one price at all buses
pub one_price : (m : Parts) (x : Dispatch) (e : Fraction) → sum_by (λ i. e *ℚ injection m x i) (places (length m.buses)) ≡ e *ℚ balance m x
one_price m x e = sum_by-times e (injection m x) (places (length m.buses)) ∙ ap (λ t. e *ℚ t) (sym (balance-by_injections m x))

-- the fixed parts and the demands, as sums over units and buses
pub fixed_parts-by_units : (m : Parts) → sum_by (fixed_part m) (places (length m.units)) ≡ sum_by (λ u. whole u.fixed) m.units
fixed_parts-by_units m = sum_by-places (λ u. whole u.fixed) _ m.units

pub demand-by_parts : (m : Parts) (i : ℕ) → demand m i ≡ whole ((bus_at m i).pd +ℤ (bus_at m i).gs)
unfolding demand
demand-by_parts m i = ap (λ t. whole (bus_at m i).pd +ℚ t) (ring_ℚ.plus_nil (whole (bus_at m i).gs)) ∙ sym (whole-+ℚ (bus_at m i).pd (bus_at m i).gs)

pub demands-by_buses : (m : Parts) → sum_by (demand m) (places (length m.buses)) ≡ sum_by (λ bus. whole (bus.pd +ℤ bus.gs)) m.buses
demands-by_buses m =
    sum_by-same (demand m) (λ i. whole ((bus_at m i).pd +ℤ (bus_at m i).gs)) (places (length m.buses)) (demand-by_parts m)
    ∙ sum_by-places (λ bus. whole (bus.pd +ℤ bus.gs)) _ m.buses

pub balance-by_lists : (m : Parts) (x : Dispatch) → IsMarket m
    → balance m x ≡ (sum_by (λ u. whole u.fixed) m.units +ℚ sum_by (raised_by m x) (places (length m.blocks))) -ℚ sum_by (λ bus. whole (bus.pd +ℤ bus.gs)) m.buses
balance-by_lists m x h =
    balance-by_parts m x h
    ∙ ap₂ (λ a b. (a +ℚ sum_by (raised_by m x) (places (length m.blocks))) -ℚ b) (fixed_parts-by_units m) (demands-by_buses m)

-- what the blocks raise, with the accepted MW in step with the blocks
pub raises-in_step : (m : Parts) (x : Dispatch) → length x.blocks ≡ length m.blocks
    → sum_by (raised_by m x) (places (length m.blocks)) ≡ sum_in_step (λ block taken. signed_by_side block.side taken) m.blocks x.blocks
raises-in_step m x h = sum_in_step-places (λ block taken. signed_by_side block.side taken) _ (whole (pos 0)) m.blocks x.blocks h

-- what balances, raises what the demands leave
pub balanced-raises : (m : Parts) (x : Dispatch) → IsMarket m → balance m x ≡ whole (pos 0)
    → sum_by (raised_by m x) (places (length m.blocks)) ≡ sum_by (demand m) (places (length m.buses)) -ℚ sum_by (fixed_part m) (places (length m.units))
balanced-raises m x h e =
    let units : Fraction = sum_by (fixed_part m) (places (length m.units)) in
    let blocks : Fraction = sum_by (raised_by m x) (places (length m.blocks)) in
    let loads : Fraction = sum_by (demand m) (places (length m.buses)) in
    by_ring1 ring_ℚ (units ∷ blocks ∷ loads ∷ []) (at 1) (at 2 ⊕ pneg (at 0)) pone ((at 0 ⊕ at 1) ⊕ pneg (at 2)) pnil (sym (balance-by_parts m x h) ∙ e) refl

pub raises-balance : (m : Parts) (x : Dispatch) → IsMarket m
    → sum_by (raised_by m x) (places (length m.blocks)) ≡ sum_by (demand m) (places (length m.buses)) -ℚ sum_by (fixed_part m) (places (length m.units))
    → balance m x ≡ whole (pos 0)
raises-balance m x h e =
    let units : Fraction = sum_by (fixed_part m) (places (length m.units)) in
    let blocks : Fraction = sum_by (raised_by m x) (places (length m.blocks)) in
    let loads : Fraction = sum_by (demand m) (places (length m.buses)) in
    balance-by_parts m x h ∙ by_ring1 ring_ℚ (units ∷ blocks ∷ loads ∷ []) ((at 0 ⊕ at 1) ⊕ pneg (at 2)) pnil pone (at 1) (at 2 ⊕ pneg (at 0)) e refl

-- the most that a block can raise its unit's output by, and the least
abbrev pub most_raised : Side → Fraction → Fraction
most_raised Sell q = q
most_raised Buy q = whole (pos 0)

abbrev pub least_raised : Side → Fraction → Fraction
least_raised Sell q = whole (pos 0)
least_raised Buy q = neg_ℚ q

signed-within : (side : Side) (x q : Fraction) → whole (pos 0) ≤ℚ x → x ≤ℚ q → (least_raised side q ≤ℚ signed_by_side side x) × (signed_by_side side x ≤ℚ most_raised side q)
signed-within Sell x q h k = (h, k)
signed-within Buy x q h k = (
  by_le1 (x ∷ q ∷ []) (pneg (at 1)) (pneg (at 0)) pone (at 0) (at 1) NonNeg-one k refl,
  by_le1 (x ∷ []) (pneg (at 0)) pnil pone pnil (at 0) NonNeg-one h refl,
)

-- within their bounds the blocks raise no more than all sell blocks sell, and no less than all buy blocks buy away
pub raises-at_most : (m : Parts) (x : Dispatch) → IsDispatch m x
    → sum_by (raised_by m x) (places (length m.blocks)) ≤ℚ sum_by (λ block. most_raised block.side (whole block.quantity)) m.blocks
raises-at_most m x h =
    subst (λ t. sum_by (raised_by m x) (places (length m.blocks)) ≤ℚ t) (sum_by-places (λ block. most_raised block.side (whole block.quantity)) _ m.blocks)
    (sum_by-≤ (raised_by m x) (λ j. most_raised (block_at m j).side (quantity m j)) (places (length m.blocks))
    (places_all (λ j. raised_by m x j ≤ℚ most_raised (block_at m j).side (quantity m j)) (length m.blocks)
    (λ j lt. (signed-within (block_at m j).side (accepted x j) (quantity m j) (h.above j lt) (h.within j lt)).1)))

pub raises-at_least : (m : Parts) (x : Dispatch) → IsDispatch m x
    → sum_by (λ block. least_raised block.side (whole block.quantity)) m.blocks ≤ℚ sum_by (raised_by m x) (places (length m.blocks))
raises-at_least m x h =
    subst (λ t. t ≤ℚ sum_by (raised_by m x) (places (length m.blocks))) (sum_by-places (λ block. least_raised block.side (whole block.quantity)) _ m.blocks)
    (sum_by-≤ (λ j. least_raised (block_at m j).side (quantity m j)) (raised_by m x) (places (length m.blocks))
    (places_all (λ j. least_raised (block_at m j).side (quantity m j) ≤ℚ raised_by m x j) (length m.blocks)
    (λ j lt. (signed-within (block_at m j).side (accepted x j) (quantity m j) (h.above j lt) (h.within j lt)).0)))

-- where anything is feasible, the sell blocks reach what the demands leave, and the buy blocks reach down to it
pub needed-at_most : (m : Parts) (x : Dispatch) → IsMarket m → IsDispatch m x → balance m x ≡ whole (pos 0)
    → (sum_by (demand m) (places (length m.buses)) -ℚ sum_by (fixed_part m) (places (length m.units))) ≤ℚ sum_by (λ block. most_raised block.side (whole block.quantity)) m.blocks
needed-at_most m x h k e = subst (λ t. t ≤ℚ sum_by (λ block. most_raised block.side (whole block.quantity)) m.blocks) (balanced-raises m x h e) (raises-at_most m x k)

pub needed-at_least : (m : Parts) (x : Dispatch) → IsMarket m → IsDispatch m x → balance m x ≡ whole (pos 0)
    → sum_by (λ block. least_raised block.side (whole block.quantity)) m.blocks ≤ℚ (sum_by (demand m) (places (length m.buses)) -ℚ sum_by (fixed_part m) (places (length m.units)))
needed-at_least m x h k e = subst (λ t. sum_by (λ block. least_raised block.side (whole block.quantity)) m.blocks ≤ℚ t) (balanced-raises m x h e) (raises-at_least m x k)

-- nothing accepted raises nothing
accepted-empty : (m : Parts) (j : ℕ) → accepted (empty m) j ≡ whole (pos 0)
accepted-empty m j = by_count (length m.blocks) j
  where
    by_count : (n i : ℕ) → slice_index_or (replicate n (whole (pos 0))) i (whole (pos 0)) ≡ whole (pos 0)
    by_count zero i = refl
    by_count (suc n) zero = refl
    by_count (suc n) (suc i) = by_count n i

signed-nil : (side : Side) → signed_by_side side (whole (pos 0)) ≡ whole (pos 0)
signed-nil Sell = refl
signed-nil Buy = by_ring ring_ℚ [] (pneg pnil) pnil refl

pub raised_by-empty : (m : Parts) (j : ℕ) → raised_by m (empty m) j ≡ whole (pos 0)
raised_by-empty m j = ap (signed_by_side (block_at m j).side) (accepted-empty m j) ∙ signed-nil (block_at m j).side

-- an injection, and the balance, by those of nothing accepted
pub injection-by_empty : (m : Parts) (x : Dispatch) (i : ℕ) → injection m x i ≡ injection m (empty m) i +ℚ sum_by (raised_by m x) (blocks_at m i)
injection-by_empty m x i =
    let units : Fraction = sum_by (fixed_part m) (units_at m i) in
    let blocks : Fraction = sum_by (raised_by m x) (blocks_at m i) in
    injection-by_parts m x i
    ∙ by_ring ring_ℚ (units ∷ blocks ∷ demand m i ∷ []) ((at 0 ⊕ at 1) ⊕ pneg (at 2)) (((at 0 ⊕ pnil) ⊕ pneg (at 2)) ⊕ at 1) refl
    ∙ ap (λ t. ((units +ℚ t) -ℚ demand m i) +ℚ blocks)
    (sym (sum_by-same (raised_by m (empty m)) (λ j. whole (pos 0)) (blocks_at m i) (raised_by-empty m) ∙ sum_by-nil (blocks_at m i)))
    ∙ ap (λ t. t +ℚ blocks) (sym (injection-by_parts m (empty m) i))

pub balance-by_empty : (m : Parts) (x : Dispatch) → IsMarket m → balance m x ≡ balance m (empty m) +ℚ sum_by (raised_by m x) (places (length m.blocks))
balance-by_empty m x h =
    let units : Fraction = sum_by (fixed_part m) (places (length m.units)) in
    let blocks : Fraction = sum_by (raised_by m x) (places (length m.blocks)) in
    let loads : Fraction = sum_by (demand m) (places (length m.buses)) in
    balance-by_parts m x h
    ∙ by_ring ring_ℚ (units ∷ blocks ∷ loads ∷ []) ((at 0 ⊕ at 1) ⊕ pneg (at 2)) (((at 0 ⊕ pnil) ⊕ pneg (at 2)) ⊕ at 1) refl
    ∙ ap (λ t. ((units +ℚ t) -ℚ loads) +ℚ blocks)
    (sym (sum_by-same (raised_by m (empty m)) (λ j. whole (pos 0)) (places (length m.blocks)) (raised_by-empty m) ∙ sum_by-nil (places (length m.blocks))))
    ∙ ap (λ t. t +ℚ blocks) (sym (balance-by_parts m (empty m) h))
