-- Limit rows: markets that have none, flows by factors, and what bus prices make of injections.
use Rattle.std.specs.Prelude.{◌≡◌, ◌==◌, ℕ, ◌<◌, Bool, true, false, All, Contains, List, [], ◌∷◌, ◌++◌, length, map, filter, refl}
use Rattle.std.specs.List.{flat_map, AllByRecursion}
use Rattle.std.proofs.Common.{arith, ap, sym, ◌∙◌, subst, subst₂, inl, inr}
use mathlib.Core.Path.{ap₂}
use Rattle.fraction_theory.specs.Fraction.{Fraction, ◌+ℚ◌, ◌-ℚ◌, ◌*ℚ◌, neg_ℚ}
use Rattle.fraction_theory.specs.Order.{◌≤ℚ◌, ◌<ℚ◌, NonNeg}
use Rattle.fraction_theory.specs.Sums.{Plain, Product, sum_by, total}
use Rattle.fraction_theory.proofs.Ring.{by_ring, by_ring1, by_ring2, at, pnil, pone, pneg, ◌⊕◌, ◌⊗◌}
use Rattle.fraction_theory.proofs.FieldLaws.{ring_ℚ}
use Rattle.fraction_theory.proofs.OrderLaws.{NonNeg_from, NonNeg_to, NonNeg-plus, NonNeg-times, NonNeg-nil, NonNeg-one, le_to, ≤ℚ_trans, opposite_most, by_le2}
use Rattle.fraction_theory.proofs.ListSums.{Contains-head, Contains-cons, kept, sum_by-filter, sum_by-members}
use Rattle.fraction_theory.proofs.SumLaws.{sum_by-≤, sum_by-plus, sum_by-nil, sum_by-same, sum_by-times, sum_by-exchange, total-append, total-Product}
use Rattle.market_model.specs.declared.participants.Parts.{Parts}
use Rattle.market_model.specs.declared.answered.Dual.{Dual}
use Rattle.market_model.specs.declared.answered.Duals.{Duals}
use Rattle.market_model.specs.Dispatch.{Dispatch, IsDispatch, zero, places, unit_at, block_at, accepted, quantity, injection, balance, demand, output}
use Rattle.market_model.specs.declared.limits.Cause.{Cause}
use Rattle.market_model.specs.declared.limits.Row.{Row}
use Rattle.market_model.specs.declared.limits.Cause.TheVariants.{Base, Branch, UnitOutage}
use Rattle.market_model.specs.LimitRows.{IsCauseOf, causes, bears, rows_of, rows, row_id, limit, lost_output, lost_unit, loses_unit, most_flow, penalty, picked_up, pickup_factor, row_flow, row_offset, row_factor, row_pickup, line_flow, line_offset, shift_factor, loss_factor, flow, taker_factor, taker_terms, unit_factor}
use Rattle.market_model.specs.Optimality.{Feasible, all_of, Supports, SideSupported, BlockSupported, Gains, Loses, price, IsOneSided, ProperDuals, names_row, named_rows, own_terms, up_of, down_of, net_shadow_price, congestion, bus_price, congestion_by, price_by, unit_price}
use Rattle.market_model.specs.Market.{IsMarket}
use Rattle.market_model.specs.Overrun.{excess, excess_by, Within}
use Rattle.market_model.specs.Settlement.{priced_flow, rent}
use Rattle.market_model.specs.Laws.{LawOfTheFlows, HasOffsetsWithin}
use Rattle.market_model.specs.Reserves.{no_reserve}
use Rattle.market_model.proofs.EnergyAlone.{block_alone, feasible_alone, full_alone, none_alone, proper_alone, supports_alone}
use Rattle.market_model.proofs.Excesses.{limit_least, nil_or_above, paid_down, paid_up, penalty_least, priced_flow-least, side_most, sides_most}
use Rattle.market_model.proofs.MarketSums.{balance-by_injections, priced_injections-by_outputs, sum_by-minus, sum_by-neg}
use Rattle.market_model.proofs.PlaceSums.{sum_by-one_place}
use Rattle.market_model.proofs.RowMembers.{at_places, lost_unit-in}
use Rattle.std.proofs.lemmas.Bool.Decides.{eqb_tells}

-- ---- a market without lines has no rows
no_items : {X Y : Type 0} (f : X → List Y) (xs : List X) → ((x : X) → f x ≡ []) → flat_map f xs ≡ []
no_items f [] h = refl
no_items f (x ∷ xs) h = ap₂ ◌++◌ (h x) (no_items f xs h)

pub no_rows : (m : Parts) → m.lines ≡ [] → rows m ≡ []
unfolding rows
no_rows m e = no_items (rows_of m) (causes m) (λ cause. ap (λ (n : ℕ). map (λ l. record { line = l; cause = cause }) (filter (bears m cause) (places n))) (ap length e))

pub no_row : (m : Parts) (r : Row) → rows m ≡ [] → ¬ (Contains (rows m) r)
no_row m r bare c = let k : Contains [] r = subst (λ (rs : List Row). Contains rs r) bare c in Prim.omega (arith, k.1)

pub congestion-bare : (m : Parts) (d : Duals Fraction) (i : ℕ) → rows m ≡ [] → congestion m d i ≡ zero
unfolding congestion_by
congestion-bare m d i e = ap (λ rs. total (map (λ r. Product (neg_ℚ (net_shadow_price m d r)) (row_factor m r i)) rs)) e

pub bus_price-bare : (m : Parts) (d : Duals Fraction) (i : ℕ) → rows m ≡ [] → bus_price m d i ≡ d.energy
unfolding price_by
bus_price-bare m d i e = ap (λ t. d.energy +ℚ t) (congestion-bare m d i e) ∙ by_ring ring_ℚ (d.energy ∷ []) (at 0 ⊕ pnil) (at 0) refl

pub unit_price-bare : (m : Parts) (d : Duals Fraction) (u : ℕ) → rows m ≡ [] → unit_price m d u ≡ d.energy
unfolding unit_price
unit_price-bare m d u e =
    ap (λ (rs : List Row). total (Plain (bus_price m d (unit_at m u).bus) ∷ map (λ r. Product (neg_ℚ (net_shadow_price m d r)) (row_pickup m r.line r.cause)) (filter (λ r. loses_unit m u r.cause) rs))) e
    ∙ by_ring ring_ℚ (bus_price m d (unit_at m u).bus ∷ []) (at 0 ⊕ pnil) (at 0) refl
    ∙ bus_price-bare m d (unit_at m u).bus e

module _ (m : Parts) (d : Duals Fraction) (x : Dispatch) (bare : rows m ≡ []) (alone : m.reserve ≡ no_reserve) where
  pub supported_bare : (j : ℕ) → (Gains (block_at m j).side (price m j) d.energy → accepted x j ≡ quantity m j) → (Loses (block_at m j).side (price m j) d.energy → accepted x j ≡ zero) → BlockSupported m x d j
  supported_bare j full empty =
      block_alone m alone x d j
      (λ g. full (subst (Gains (block_at m j).side (price m j)) (unit_price-bare m d (block_at m j).unit bare) g))
      (λ g. empty (subst (Loses (block_at m j).side (price m j)) (unit_price-bare m d (block_at m j).unit bare) g))

  pub supports_bare : d.reserve ≡ zero → ((j : ℕ) → j < length m.blocks → BlockSupported m x d j) → Supports m x d
  supports_bare free h = supports_alone m alone x d free h (λ r c. absurd (no_row m r bare c))

  pub full_bare : (j : ℕ) → BlockSupported m x d j → Gains (block_at m j).side (price m j) d.energy → accepted x j ≡ quantity m j
  full_bare j s g = full_alone m alone x d j s (subst (Gains (block_at m j).side (price m j)) (sym (unit_price-bare m d (block_at m j).unit bare)) g)

  pub empty_bare : (j : ℕ) → BlockSupported m x d j → Loses (block_at m j).side (price m j) d.energy → accepted x j ≡ zero
  empty_bare j s g = none_alone m alone x d j s (subst (Loses (block_at m j).side (price m j)) (sym (unit_price-bare m d (block_at m j).unit bare)) g)

pub feasible_bare : (m : Parts) (x : Dispatch) → rows m ≡ [] → m.reserve ≡ no_reserve → IsDispatch m x → balance m x ≡ zero → Feasible m x
feasible_bare m x bare alone h e = feasible_alone m alone (all_of m) x (λ u c. c) h e (λ r c. absurd (no_row m r bare c))

pub named_rows-bare : (m : Parts) (d : Duals Fraction) → rows m ≡ [] → named_rows m d ≡ []
named_rows-bare m d bare = ap (λ (rs : List Row). filter (λ r. names_row d.limits (row_id m r)) rs) bare

pub proper_bare : (m : Parts) (d : Duals Fraction) → rows m ≡ [] → m.reserve ≡ no_reserve → d.reserve ≡ zero → d.rooms ≡ [] → d.limits ≡ [] → ProperDuals m d
proper_bare m d bare alone free none e =
    proper_alone m alone d free none
    (ap (λ (ds : List (Dual Fraction)). map (λ f. f.row) ds) e ∙ sym (ap (λ (rs : List Row). map (row_id m) rs) (named_rows-bare m d bare)))
    (subst (All IsOneSided) (sym e) (λ i f lt. absurd (Prim.omega (arith, lt))))

-- what is proper names nothing where there are no rows
pub no_limits : (m : Parts) (d : Duals Fraction) → rows m ≡ [] → ProperDuals m d → d.limits ≡ []
no_limits m d bare h = none d.limits (h.named ∙ ap (λ (rs : List Row). map (row_id m) rs) (named_rows-bare m d bare))
  where
    none : (ds : List (Dual Fraction)) → map (λ f. f.row) ds ≡ [] → ds ≡ []
    none [] e = refl
    none (f ∷ fs) e = absurd Prim.cc

-- ---- flows by factors
line_flow-by_factors : (m : Parts) (p : ℕ → Fraction) (l : ℕ) → line_flow m p l ≡ line_offset m l +ℚ sum_by (λ i. shift_factor m l i *ℚ p i) (places (length m.buses))
unfolding line_flow
line_flow-by_factors m p l = ap (λ t. line_offset m l +ℚ t) (total-Product (shift_factor m l) p (places (length m.buses)))

-- the same by the factors and the offset of a row that nothing goes over to
line_flow-by_row : (m : Parts) (p : ℕ → Fraction) (l : ℕ)
    → line_flow m p l ≡ (line_offset m l +ℚ zero) +ℚ sum_by (λ i. (shift_factor m l i +ℚ zero) *ℚ p i) (places (length m.buses))
line_flow-by_row m p l =
    line_flow-by_factors m p l
    ∙ ap₂ ◌+ℚ◌ (by_ring ring_ℚ (line_offset m l ∷ []) (at 0) (at 0 ⊕ pnil) refl)
    (sum_by-same (λ i. shift_factor m l i *ℚ p i) (λ i. (shift_factor m l i +ℚ zero) *ℚ p i) (places (length m.buses))
    (λ i. by_ring ring_ℚ (shift_factor m l i ∷ p i ∷ []) (at 0 ⊗ at 1) ((at 0 ⊕ pnil) ⊗ at 1) refl))

pub law_of_the_flows : LawOfTheFlows
unfolding row_offset row_factor
law_of_the_flows m p lost r = by r.line r.cause
  where
    by : (l : ℕ) (c : Cause) → row_flow m p lost (record { line = l; cause = c })
        ≡ (row_offset m (record { line = l; cause = c }) +ℚ sum_by (λ i. row_factor m (record { line = l; cause = c }) i *ℚ p i) (places (length m.buses)))
        +ℚ picked_up m lost (record { line = l; cause = c })
    by l Base =
        ap (λ t. t +ℚ zero) (line_flow-by_row m p l)
    by l (UnitOutage k) =
        ap (λ t. t +ℚ (pickup_factor m l k *ℚ lost k +ℚ zero)) (line_flow-by_row m p l)
    by l (Branch k) =
        let k_l : Fraction = loss_factor m l k in
        let o : Fraction = line_offset m l in
        let o_k : Fraction = line_offset m k in
        let s : Fraction = sum_by (λ i. shift_factor m l i *ℚ p i) (places (length m.buses)) in
        let s_k : Fraction = sum_by (λ i. shift_factor m k i *ℚ p i) (places (length m.buses)) in
        ap₂ (λ (t u : Fraction). t +ℚ (loss_factor m l k *ℚ u +ℚ zero)) (line_flow-by_factors m p l) (line_flow-by_factors m p k)
        ∙ by_ring ring_ℚ (o ∷ s ∷ k_l ∷ o_k ∷ s_k ∷ []) ((at 0 ⊕ at 1) ⊕ (at 2 ⊗ (at 3 ⊕ at 4) ⊕ pnil)) (((at 0 ⊕ (at 2 ⊗ at 3 ⊕ pnil)) ⊕ (at 1 ⊕ at 2 ⊗ at 4)) ⊕ pnil) refl
        ∙ ap (λ t. ((o +ℚ (k_l *ℚ o_k +ℚ zero)) +ℚ t) +ℚ zero)
        (ap (λ t. s +ℚ t) (sym (sum_by-times (loss_factor m l k) (λ i. shift_factor m k i *ℚ p i) (places (length m.buses))))
        ∙ sym (sum_by-plus (λ i. shift_factor m l i *ℚ p i) (λ i. loss_factor m l k *ℚ (shift_factor m k i *ℚ p i)) (places (length m.buses)))
        ∙ sum_by-same (λ i. shift_factor m l i *ℚ p i +ℚ loss_factor m l k *ℚ (shift_factor m k i *ℚ p i))
        (λ i. (shift_factor m l i +ℚ (loss_factor m l k *ℚ shift_factor m k i +ℚ zero)) *ℚ p i) (places (length m.buses))
        (λ i. by_ring ring_ℚ (shift_factor m l i ∷ p i ∷ loss_factor m l k ∷ shift_factor m k i ∷ []) (at 0 ⊗ at 1 ⊕ at 2 ⊗ (at 3 ⊗ at 1)) ((at 0 ⊕ (at 2 ⊗ at 3 ⊕ pnil)) ⊗ at 1) refl))

-- what rows take from a unit's price, row by row
pickups-by_rows : (m : Parts) (d : Duals Fraction) (u : ℕ)
    → total (map (λ r. Product (neg_ℚ (net_shadow_price m d r)) (row_pickup m r.line r.cause)) (filter (λ r. loses_unit m u r.cause) (rows m)))
    ≡ sum_by (λ r. kept (loses_unit m u r.cause) (neg_ℚ (net_shadow_price m d r) *ℚ row_pickup m r.line r.cause)) (rows m)
pickups-by_rows m d u =
    total-Product (λ r. neg_ℚ (net_shadow_price m d r)) (λ r. row_pickup m r.line r.cause) (filter (λ r. loses_unit m u r.cause) (rows m))
    ∙ sum_by-filter (λ r. neg_ℚ (net_shadow_price m d r) *ℚ row_pickup m r.line r.cause) (λ r. loses_unit m u r.cause) (rows m)

-- ---- sums over buses and rows, exchanged
-- what prices of buses, made of the net prices of rows, make of injections
pub by_net_prices : {R : Type 0} (rs : List R) (is : List ℕ) (q : R → Fraction) (a : R → ℕ → Fraction) (p : ℕ → Fraction)
    → sum_by (λ i. sum_by (λ r. neg_ℚ (q r) *ℚ a r i) rs *ℚ p i) is ≡ neg_ℚ (sum_by (λ r. q r *ℚ sum_by (λ i. a r i *ℚ p i) is) rs)
by_net_prices rs is q a p =
    sum_by-same (λ i. sum_by (λ r. neg_ℚ (q r) *ℚ a r i) rs *ℚ p i) (λ i. sum_by (λ r. p i *ℚ (neg_ℚ (q r) *ℚ a r i)) rs) is
    (λ i. by_ring ring_ℚ (sum_by (λ r. neg_ℚ (q r) *ℚ a r i) rs ∷ p i ∷ []) (at 0 ⊗ at 1) (at 1 ⊗ at 0) refl ∙ sym (sum_by-times (p i) (λ r. neg_ℚ (q r) *ℚ a r i) rs))
    ∙ sum_by-exchange (λ i r. p i *ℚ (neg_ℚ (q r) *ℚ a r i)) is rs
    ∙ sum_by-same (λ r. sum_by (λ i. p i *ℚ (neg_ℚ (q r) *ℚ a r i)) is) (λ r. neg_ℚ (q r *ℚ sum_by (λ i. a r i *ℚ p i) is)) rs
    (λ r. sum_by-same (λ i. p i *ℚ (neg_ℚ (q r) *ℚ a r i)) (λ i. neg_ℚ (q r) *ℚ (a r i *ℚ p i)) is
    (λ i. by_ring ring_ℚ (p i ∷ q r ∷ a r i ∷ []) (at 0 ⊗ (pneg (at 1) ⊗ at 2)) (pneg (at 1) ⊗ (at 2 ⊗ at 0)) refl)
    ∙ sum_by-times (neg_ℚ (q r)) (λ i. a r i *ℚ p i) is
    ∙ by_ring ring_ℚ (q r ∷ sum_by (λ i. a r i *ℚ p i) is ∷ []) (pneg (at 0) ⊗ at 1) (pneg (at 0 ⊗ at 1)) refl)
    ∙ sum_by-neg (λ r. q r *ℚ sum_by (λ i. a r i *ℚ p i) is) rs

-- the rows at their net prices, on what flows beyond their offsets where buses put in p, and lost units so much of it
abbrev pub row_prices_by : Parts → Duals Fraction → (ℕ → Fraction) → (ℕ → Fraction) → Fraction
row_prices_by m d p lost = sum_by (λ r. net_shadow_price m d r *ℚ (row_flow m p lost r -ℚ row_offset m r)) (rows m)

abbrev pub row_prices : Parts → Duals Fraction → Dispatch → Fraction
row_prices m d x = row_prices_by m d (injection m x) (lost_output m x)

-- the rows at their net prices, on what is picked up of the outputs of lost units
abbrev pub pickup_prices : Parts → Duals Fraction → (ℕ → Fraction) → Fraction
pickup_prices m d lost = sum_by (λ r. net_shadow_price m d r *ℚ picked_up m lost r) (rows m)

-- what is put in at bus prices: all of it at the price of energy, less that of the rows, but for what is picked up
pub priced_by_rows : (m : Parts) (d : Duals Fraction) (p lost : ℕ → Fraction)
    → sum_by (λ i. bus_price m d i *ℚ p i) (places (length m.buses)) ≡ (d.energy *ℚ sum_by p (places (length m.buses)) -ℚ row_prices_by m d p lost) +ℚ pickup_prices m d lost
unfolding price_by congestion_by
priced_by_rows m d p lost =
    let buses : List ℕ = places (length m.buses) in
    sum_by-same (λ i. (d.energy +ℚ congestion m d i) *ℚ p i) (λ i. d.energy *ℚ p i +ℚ sum_by (λ r. neg_ℚ (net_shadow_price m d r) *ℚ row_factor m r i) (rows m) *ℚ p i) buses
    (λ i. by_ring ring_ℚ (d.energy ∷ congestion m d i ∷ p i ∷ []) ((at 0 ⊕ at 1) ⊗ at 2) (at 0 ⊗ at 2 ⊕ at 1 ⊗ at 2) refl
    ∙ ap (λ t. d.energy *ℚ p i +ℚ t *ℚ p i) (total-Product (λ r. neg_ℚ (net_shadow_price m d r)) (λ r. row_factor m r i) (rows m)))
    ∙ sum_by-plus (λ i. d.energy *ℚ p i) (λ i. sum_by (λ r. neg_ℚ (net_shadow_price m d r) *ℚ row_factor m r i) (rows m) *ℚ p i) buses
    ∙ ap₂ ◌+ℚ◌
    (sum_by-times d.energy p buses)
    (by_net_prices (rows m) buses (net_shadow_price m d) (row_factor m) p
    ∙ ap neg_ℚ (sum_by-same (λ r. net_shadow_price m d r *ℚ sum_by (λ i. row_factor m r i *ℚ p i) buses)
    (λ r. net_shadow_price m d r *ℚ (row_flow m p lost r -ℚ row_offset m r) -ℚ net_shadow_price m d r *ℚ picked_up m lost r) (rows m)
    (λ r.
    by_ring1 ring_ℚ (row_flow m p lost r ∷ row_offset m r ∷ sum_by (λ i. row_factor m r i *ℚ p i) buses ∷ picked_up m lost r ∷ net_shadow_price m d r ∷ [])
    (at 4 ⊗ at 2) (at 4 ⊗ (at 0 ⊕ pneg (at 1)) ⊕ pneg (at 4 ⊗ at 3)) (pneg (at 4)) (at 0) ((at 1 ⊕ at 2) ⊕ at 3) (law_of_the_flows m p lost r) refl)
    ∙ sum_by-minus (λ r. net_shadow_price m d r *ℚ (row_flow m p lost r -ℚ row_offset m r)) (λ r. net_shadow_price m d r *ℚ picked_up m lost r) (rows m)))
    ∙ by_ring ring_ℚ ((d.energy *ℚ sum_by p buses) ∷ row_prices_by m d p lost ∷ pickup_prices m d lost ∷ []) (at 0 ⊕ pneg (at 1 ⊕ pneg (at 2))) ((at 0 ⊕ pneg (at 1)) ⊕ at 2) refl

-- where nothing of it is lost, nothing is picked up
pub picked_up-none : (m : Parts) (r : Row) → picked_up m (λ k. zero) r ≡ zero
picked_up-none m r = by r.line r.cause
  where
    by : (l : ℕ) (c : Cause) → picked_up m (λ k. zero) (record { line = l; cause = c }) ≡ zero
    by l Base = refl
    by l (Branch k) = refl
    by l (UnitOutage k) = by_ring ring_ℚ (pickup_factor m l k ∷ []) (at 0 ⊗ pnil ⊕ pnil) pnil refl

-- ---- at the own prices of units
-- what a unit's output counts for a row, by its bus and by what is picked up of it
pub unit_factor-parts : (m : Parts) (r : Row) (u : ℕ) → unit_factor m r u ≡ row_factor m r (unit_at m u).bus +ℚ kept (loses_unit m u r.cause) (row_pickup m r.line r.cause)
unfolding row_factor pickup_factor taker_factor
unit_factor-parts m r u = by r.line r.cause
  where
    by : (l : ℕ) (c : Cause) → unit_factor m (record { line = l; cause = c }) u ≡ row_factor m (record { line = l; cause = c }) (unit_at m u).bus +ℚ kept (loses_unit m u c) (row_pickup m l c)
    by l Base = by_ring ring_ℚ (shift_factor m l (unit_at m u).bus ∷ []) (at 0 ⊕ pnil) ((at 0 ⊕ pnil) ⊕ pnil) refl
    by l (Branch k) =
        by_ring ring_ℚ (shift_factor m l (unit_at m u).bus ∷ loss_factor m l k ∷ shift_factor m k (unit_at m u).bus ∷ []) (at 0 ⊕ (at 1 ⊗ at 2 ⊕ pnil)) ((at 0 ⊕ (at 1 ⊗ at 2 ⊕ pnil)) ⊕ pnil) refl
    by l (UnitOutage k) = elim (eqb_tells (lost_unit m k) u) [
      | inl t ↦ Prim.rw (t.0) (lost t.1)
      | inr t ↦ Prim.rw (t.0) (by_ring ring_ℚ (shift_factor m l (unit_at m u).bus ∷ []) (at 0 ⊕ pnil) ((at 0 ⊕ pnil) ⊕ pnil) refl)
    ]
      where
        lost : lost_unit m k ≡ u → taker_factor m l k ≡ (shift_factor m l (unit_at m u).bus +ℚ zero) +ℚ pickup_factor m l k
        lost e =
            by_ring1 ring_ℚ (taker_factor m l k ∷ shift_factor m l (unit_at m u).bus ∷ pickup_factor m l k ∷ []) (at 0) ((at 1 ⊕ pnil) ⊕ at 2)
            (pneg pone) (at 2) (at 0 ⊕ (pneg (at 1) ⊕ pnil))
            (total-append (taker_terms m l k) (Plain (neg_ℚ (shift_factor m l (unit_at m (lost_unit m k)).bus)) ∷ [])
            ∙ ap (λ (v : ℕ). taker_factor m l k +ℚ (neg_ℚ (shift_factor m l (unit_at m v).bus) +ℚ zero)) e) refl

-- a unit's price: that of energy, and what all rows take by its own factors
pub unit_price-by_factors : (m : Parts) (d : Duals Fraction) (u : ℕ) → unit_price m d u ≡ price_by m d (λ r. unit_factor m r u)
unfolding unit_price price_by congestion_by
unit_price-by_factors m d u =
    let at_bus : Fraction = sum_by (λ r. neg_ℚ (net_shadow_price m d r) *ℚ row_factor m r (unit_at m u).bus) (rows m) in
    let taken : Fraction = sum_by (λ r. kept (loses_unit m u r.cause) (neg_ℚ (net_shadow_price m d r) *ℚ row_pickup m r.line r.cause)) (rows m) in
    ap₂ (λ (s t : Fraction). (d.energy +ℚ s) +ℚ t)
    (total-Product (λ r. neg_ℚ (net_shadow_price m d r)) (λ r. row_factor m r (unit_at m u).bus) (rows m))
    (pickups-by_rows m d u)
    ∙ by_ring ring_ℚ (d.energy ∷ at_bus ∷ taken ∷ []) ((at 0 ⊕ at 1) ⊕ at 2) (at 0 ⊕ (at 1 ⊕ at 2)) refl
    ∙ ap (λ t. d.energy +ℚ t)
    (sym (sum_by-plus (λ r. neg_ℚ (net_shadow_price m d r) *ℚ row_factor m r (unit_at m u).bus) (λ r. kept (loses_unit m u r.cause) (neg_ℚ (net_shadow_price m d r) *ℚ row_pickup m r.line r.cause)) (rows m))
    ∙ sum_by-same (λ r. neg_ℚ (net_shadow_price m d r) *ℚ row_factor m r (unit_at m u).bus +ℚ kept (loses_unit m u r.cause) (neg_ℚ (net_shadow_price m d r) *ℚ row_pickup m r.line r.cause))
    (λ r. neg_ℚ (net_shadow_price m d r) *ℚ unit_factor m r u) (rows m)
    (λ r. each (loses_unit m u r.cause) (net_shadow_price m d r) (row_factor m r (unit_at m u).bus) (row_pickup m r.line r.cause) ∙ ap (λ t. neg_ℚ (net_shadow_price m d r) *ℚ t) (sym (unit_factor-parts m r u)))
    ∙ sym (total-Product (λ r. neg_ℚ (net_shadow_price m d r)) (λ r. unit_factor m r u) (rows m)))
  where
    each : (b : Bool) (n a k : Fraction) → neg_ℚ n *ℚ a +ℚ kept b (neg_ℚ n *ℚ k) ≡ neg_ℚ n *ℚ (a +ℚ kept b k)
    each true n a k = by_ring ring_ℚ (n ∷ a ∷ k ∷ []) (pneg (at 0) ⊗ at 1 ⊕ pneg (at 0) ⊗ at 2) (pneg (at 0) ⊗ (at 1 ⊕ at 2)) refl
    each false n a k = by_ring ring_ℚ (n ∷ a ∷ k ∷ []) (pneg (at 0) ⊗ at 1 ⊕ pnil) (pneg (at 0) ⊗ (at 1 ⊕ pnil)) refl

-- at the net price n of a row, what is picked up of the outputs P of units is what the one that is lost takes from its price
picked_up-by_units : (m : Parts) → IsMarket m → (n : Fraction) (P : ℕ → Fraction) (l : ℕ) (c : Cause) → IsCauseOf m c
    → sum_by (λ u. kept (loses_unit m u c) (neg_ℚ n *ℚ row_pickup m l c) *ℚ P u) (places (length m.units)) ≡ neg_ℚ (n *ℚ picked_up m (λ k. P (lost_unit m k)) (record { line = l; cause = c }))
picked_up-by_units m market n P l Base is =
    sum_by-same (λ u. zero *ℚ P u) (λ u. zero) (places (length m.units)) (λ u. by_ring ring_ℚ (P u ∷ []) (pnil ⊗ at 0) pnil refl)
    ∙ sum_by-nil (places (length m.units)) ∙ by_ring ring_ℚ (n ∷ []) pnil (pneg (at 0 ⊗ pnil)) refl
picked_up-by_units m market n P l (Branch k) is =
    sum_by-same (λ u. zero *ℚ P u) (λ u. zero) (places (length m.units)) (λ u. by_ring ring_ℚ (P u ∷ []) (pnil ⊗ at 0) pnil refl)
    ∙ sum_by-nil (places (length m.units)) ∙ by_ring ring_ℚ (n ∷ []) pnil (pneg (at 0 ⊗ pnil)) refl
picked_up-by_units m market n P l (UnitOutage k) is =
    sum_by-same (λ u. kept (lost_unit m k == u) (neg_ℚ n *ℚ pickup_factor m l k) *ℚ P u) (λ u. kept (lost_unit m k == u) ((neg_ℚ n *ℚ pickup_factor m l k) *ℚ P u)) (places (length m.units))
    (λ u. kept-times (lost_unit m k == u) (neg_ℚ n *ℚ pickup_factor m l k) (P u))
    ∙ sum_by-one_place (λ u. (neg_ℚ n *ℚ pickup_factor m l k) *ℚ P u) (lost_unit m k) (length m.units) (lost_unit-in m market k is)
    ∙ by_ring ring_ℚ (n ∷ pickup_factor m l k ∷ P (lost_unit m k) ∷ []) ((pneg (at 0) ⊗ at 1) ⊗ at 2) (pneg (at 0 ⊗ (at 1 ⊗ at 2 ⊕ pnil))) refl
  where
    kept-times : (b : Bool) (a p : Fraction) → kept b a *ℚ p ≡ kept b (a *ℚ p)
    kept-times true a p = refl
    kept-times false a p = by_ring ring_ℚ (p ∷ []) (pnil ⊗ at 0) pnil refl

-- amounts of units at their own prices: at the prices of their buses, less what rows take of what is picked up
pub at_own_prices : (m : Parts) → IsMarket m → (d : Duals Fraction) (P : ℕ → Fraction)
    → sum_by (λ u. unit_price m d u *ℚ P u) (places (length m.units))
    ≡ sum_by (λ u. bus_price m d (unit_at m u).bus *ℚ P u) (places (length m.units)) -ℚ pickup_prices m d (λ k. P (lost_unit m k))
unfolding unit_price
at_own_prices m market d P =
    let units : List ℕ = places (length m.units) in
    let taken : ℕ → Row → Fraction = λ u r. kept (loses_unit m u r.cause) (neg_ℚ (net_shadow_price m d r) *ℚ row_pickup m r.line r.cause) *ℚ P u in
    sum_by-same (λ u. unit_price m d u *ℚ P u)
    (λ u. bus_price m d (unit_at m u).bus *ℚ P u +ℚ sum_by (λ r. kept (loses_unit m u r.cause) (neg_ℚ (net_shadow_price m d r) *ℚ row_pickup m r.line r.cause) *ℚ P u) (rows m)) units
    (λ u. ap (λ t. (bus_price m d (unit_at m u).bus +ℚ t) *ℚ P u) (pickups-by_rows m d u)
    ∙ by_ring ring_ℚ (bus_price m d (unit_at m u).bus ∷ sum_by (λ r. kept (loses_unit m u r.cause) (neg_ℚ (net_shadow_price m d r) *ℚ row_pickup m r.line r.cause)) (rows m) ∷ P u ∷ [])
    ((at 0 ⊕ at 1) ⊗ at 2) (at 0 ⊗ at 2 ⊕ at 2 ⊗ at 1) refl
    ∙ ap (λ t. bus_price m d (unit_at m u).bus *ℚ P u +ℚ t)
    (sym (sum_by-times (P u) (λ r. kept (loses_unit m u r.cause) (neg_ℚ (net_shadow_price m d r) *ℚ row_pickup m r.line r.cause)) (rows m))
    ∙ sum_by-same (λ r. P u *ℚ kept (loses_unit m u r.cause) (neg_ℚ (net_shadow_price m d r) *ℚ row_pickup m r.line r.cause))
    (λ r. kept (loses_unit m u r.cause) (neg_ℚ (net_shadow_price m d r) *ℚ row_pickup m r.line r.cause) *ℚ P u) (rows m)
    (λ r. by_ring ring_ℚ (P u ∷ kept (loses_unit m u r.cause) (neg_ℚ (net_shadow_price m d r) *ℚ row_pickup m r.line r.cause) ∷ []) (at 0 ⊗ at 1) (at 1 ⊗ at 0) refl)))
    ∙ sum_by-plus (λ u. bus_price m d (unit_at m u).bus *ℚ P u) (λ u. sum_by (λ r. kept (loses_unit m u r.cause) (neg_ℚ (net_shadow_price m d r) *ℚ row_pickup m r.line r.cause) *ℚ P u) (rows m)) units
    ∙ ap (λ t. sum_by (λ u. bus_price m d (unit_at m u).bus *ℚ P u) units +ℚ t)
    (sum_by-exchange taken units (rows m)
    ∙ sum_by-members (λ r. sum_by (λ u. taken u r) units) (λ r. neg_ℚ (net_shadow_price m d r *ℚ picked_up m (λ k. P (lost_unit m k)) r)) (rows m)
    (λ r c. picked_up-by_units m market (net_shadow_price m d r) P r.line r.cause (at_places m market r c).1)
    ∙ sum_by-neg (λ r. net_shadow_price m d r *ℚ picked_up m (λ k. P (lost_unit m k)) r) (rows m))

-- at a dispatch: outputs at own prices less demands at bus prices are the balance at the price of energy, less what the rows take
pub priced-by_rows : (m : Parts) → IsMarket m → (d : Duals Fraction) (x : Dispatch)
    → sum_by (λ u. unit_price m d u *ℚ output m x u) (places (length m.units)) -ℚ sum_by (λ i. bus_price m d i *ℚ demand m i) (places (length m.buses))
    ≡ d.energy *ℚ balance m x -ℚ row_prices m d x
priced-by_rows m market d x =
    let at_buses : Fraction = sum_by (λ u. bus_price m d (unit_at m u).bus *ℚ output m x u) (places (length m.units)) in
    let loads : Fraction = sum_by (λ i. bus_price m d i *ℚ demand m i) (places (length m.buses)) in
    let picked : Fraction = pickup_prices m d (lost_output m x) in
    let put : Fraction = sum_by (λ i. bus_price m d i *ℚ injection m x i) (places (length m.buses)) in
    let made : Fraction = d.energy *ℚ balance m x -ℚ row_prices m d x in
    ap (λ t. t -ℚ loads) (at_own_prices m market d (output m x))
    ∙ by_ring2 ring_ℚ (at_buses ∷ loads ∷ picked ∷ put ∷ made ∷ []) ((at 0 ⊕ pneg (at 2)) ⊕ pneg (at 1)) (at 4)
    (pneg pone) (at 3) (at 0 ⊕ pneg (at 1)) pone (at 3) (at 4 ⊕ at 2)
    (priced_injections-by_outputs m x (bus_price m d) market)
    (priced_by_rows m d (injection m x) (lost_output m x) ∙ ap (λ t. (d.energy *ℚ t -ℚ row_prices m d x) +ℚ picked) (sym (balance-by_injections m x))) refl

-- ---- along the rows
pub along : {T : Type 0} (P : T → Type 0) (xs : List T) → ((x : T) → Contains xs x → P x) → AllByRecursion P xs
along P [] h = tt
along P (x ∷ xs) h = (h x (Contains-head x xs), along P xs (λ y c. h y (Contains-cons x xs y c)))

-- ---- one row whose prices are supported by its flow f: another flow g, its offset o
module _ (m : Parts) (market : IsMarket m) (r : Row) (u d f o : Fraction) (up : SideSupported m r u f) (down : SideSupported m r d (neg_ℚ f)) where
  -- no flow up to the greatest counts for more at its net price, less the penalty
  net_price_most : (g : Fraction) → Within (most_flow m r) g → ((u -ℚ d) *ℚ (g -ℚ o) -ℚ penalty m r *ℚ excess_by m r g) ≤ℚ ((u -ℚ d) *ℚ (f -ℚ o) -ℚ penalty m r *ℚ excess_by m r f)
  net_price_most g w =
      sides_most u d (penalty m r) (limit m r) f g o (limit_least m market r)
      (side_most u f (limit m r) (most_flow m r) (penalty m r) (penalty_least m market r) up.sign up.reached up.exceeded up.used_up g w.below)
      (side_most d (neg_ℚ f) (limit m r) (most_flow m r) (penalty m r) (penalty_least m market r) down.sign down.reached down.exceeded down.used_up (neg_ℚ g)
      (opposite_most (most_flow m r) g w.above))

  -- at its net price the flow is the rent
  net_price_rent : (u -ℚ d) *ℚ (f -ℚ o) ≡ u *ℚ (priced_flow m r f -ℚ o) +ℚ (d *ℚ (priced_flow m r f +ℚ o) +ℚ zero)
  net_price_rent =
      by_ring2 ring_ℚ (u ∷ d ∷ f ∷ o ∷ priced_flow m r f ∷ []) ((at 0 ⊕ pneg (at 1)) ⊗ (at 2 ⊕ pneg (at 3))) (at 0 ⊗ (at 4 ⊕ pneg (at 3)) ⊕ (at 1 ⊗ (at 4 ⊕ at 3) ⊕ pnil))
      (pneg pone) (at 0 ⊗ at 4) (at 0 ⊗ at 2) (pneg pone) (at 1 ⊗ at 4) (at 1 ⊗ pneg (at 2)) (paid_up m r u f (limit_least m market r) up) (paid_down m r d f (limit_least m market r) down) refl

-- a rent is at least 0 where the offset is within the limits, where a price is above 0
pub rent_sign : (u d limit o : Fraction) → zero ≤ℚ u → zero ≤ℚ d → (zero <ℚ u → o ≤ℚ limit) → (zero <ℚ d → neg_ℚ limit ≤ℚ o)
    → zero ≤ℚ (u *ℚ (limit -ℚ o) +ℚ (d *ℚ (limit +ℚ o) +ℚ zero))
rent_sign u d limit o up_sign down_sign up down =
    NonNeg_to (u *ℚ (limit -ℚ o) +ℚ (d *ℚ (limit +ℚ o) +ℚ zero))
    (NonNeg-plus (u *ℚ (limit -ℚ o)) (d *ℚ (limit +ℚ o) +ℚ zero) upper (NonNeg-plus (d *ℚ (limit +ℚ o)) zero lower NonNeg-nil))
  where
    upper : NonNeg (u *ℚ (limit -ℚ o))
    upper = elim (nil_or_above u up_sign) [
      | inl e ↦ subst NonNeg (by_ring ring_ℚ (limit ∷ o ∷ []) pnil (pnil ⊗ (at 0 ⊕ pneg (at 1))) refl ∙ ap (λ t. t *ℚ (limit -ℚ o)) (sym e)) NonNeg-nil
      | inr a ↦ NonNeg-times u (limit -ℚ o) (NonNeg_from u up_sign) (le_to o limit (up a))
    ]

    lower : NonNeg (d *ℚ (limit +ℚ o))
    lower = elim (nil_or_above d down_sign) [
      | inl e ↦ subst NonNeg (by_ring ring_ℚ (limit ∷ o ∷ []) pnil (pnil ⊗ (at 0 ⊕ at 1)) refl ∙ ap (λ t. t *ℚ (limit +ℚ o)) (sym e)) NonNeg-nil
      | inr a ↦ NonNeg-times d (limit +ℚ o) (NonNeg_from d down_sign)
          (subst NonNeg (by_ring ring_ℚ (limit ∷ o ∷ []) (at 1 ⊕ pneg (pneg (at 0))) (at 0 ⊕ at 1) refl) (le_to (neg_ℚ limit) o (down a)))
    ]

-- ---- all rows
-- what the penalties of all rows take
abbrev pub row_penalties : Parts → Dispatch → Fraction
row_penalties m x = sum_by (λ r. penalty m r *ℚ excess m x r) (rows m)

module _ (m : Parts) (market : IsMarket m) (d : Duals Fraction) (x : Dispatch) (s : Supports m x d) where
  pub row_prices-rents : row_prices m d x ≡ sum_by (rent m x d) (rows m)
  unfolding rent
  row_prices-rents = sum_by-members (λ r. net_shadow_price m d r *ℚ (flow m x r -ℚ row_offset m r)) (rent m x d) (rows m)
      (λ r c. net_price_rent m market r (up_of m d r) (down_of m d r) (flow m x r) (row_offset m r) (s.rows r c).up (s.rows r c).down)

  -- at the rows' net prices, less their penalties, no feasible dispatch counts for more
  pub row_prices-most : (y : Dispatch) → Feasible m y → (row_prices m d y -ℚ row_penalties m y) ≤ℚ (row_prices m d x -ℚ row_penalties m x)
  row_prices-most y f =
      subst₂ ◌≤ℚ◌ (sum_by-minus (counted y) (λ r. penalty m r *ℚ excess m y r) (rows m)) (sum_by-minus (counted x) (λ r. penalty m r *ℚ excess m x r) (rows m))
      (sum_by-≤ (λ r. counted y r -ℚ penalty m r *ℚ excess m y r) (λ r. counted x r -ℚ penalty m r *ℚ excess m x r) (rows m)
      (along (λ r. (counted y r -ℚ penalty m r *ℚ excess m y r) ≤ℚ (counted x r -ℚ penalty m r *ℚ excess m x r)) (rows m)
      (λ r c. net_price_most m market r (up_of m d r) (down_of m d r) (flow m x r) (row_offset m r) (s.rows r c).up (s.rows r c).down (flow m y r) (f.limits r c))))
    where
      counted : Dispatch → Row → Fraction
      counted z r = net_shadow_price m d r *ℚ (flow m z r -ℚ row_offset m r)

  pub rents-sign : HasOffsetsWithin m d → zero ≤ℚ sum_by (rent m x d) (rows m)
  unfolding rent
  rents-sign within =
      subst (λ t. t ≤ℚ sum_by (rent m x d) (rows m)) (sum_by-nil (rows m))
      (sum_by-≤ (λ r. zero) (rent m x d) (rows m) (along (λ r. zero ≤ℚ rent m x d r) (rows m)
      (λ r c. let paid = priced_flow-least m r (flow m x r) in
      rent_sign (up_of m d r) (down_of m d r) (priced_flow m r (flow m x r)) (row_offset m r) (s.rows r c).up.sign (s.rows r c).down.sign
      (λ a. ≤ℚ_trans (row_offset m r) (limit m r) (priced_flow m r (flow m x r)) (within r c (inl a)).below paid)
      (λ a. by_le2 (priced_flow m r (flow m x r) ∷ limit m r ∷ row_offset m r ∷ []) (pneg (at 0)) (at 2) pone (at 1) (at 0) pone (pneg (at 1)) (at 2) NonNeg-one paid NonNeg-one (within r c (inr a)).above refl))))
