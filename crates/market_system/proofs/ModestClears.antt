-- No number that a clear of a modest market of energy alone without lines may have to write down is above 127 bits.
use Rattle.std.specs.Prelude.{◌≡◌, ℕ, Bool, true, false, not, if◌then◌else◌, ◌+◌, ◌*◌, ◌-◌, ◌^◌, ◌≤◌, ◌<◌, pos, List, [], ◌∷◌, ◌++◌, length, map, filter, Option, Some, None, refl}
use Rattle.std.specs.List.{Contains}
use Rattle.std.proofs.Common.{arith, ap, ap₂, sym, ◌∙◌, subst, inl, inr}
use Rattle.std.proofs.lemmas.List.{append-nil, length-append, length-map}
use Rattle.std.proofs.lemmas.List.FromFn.{length-range_with_len}
use Rattle.fraction_theory.specs.Fraction.{Fraction, neg_ℚ, ◌-ℚ◌, ◌*ℚ◌}
use Rattle.fraction_theory.specs.Signs.{sign_of, part_above, where_above}
use Rattle.fraction_theory.specs.Sums.{Term, Plain, Product, prefix, total}
use Rattle.fraction_theory.specs.declared.Sign.{Sign}
use Rattle.fraction_theory.specs.declared.Sign.TheVariants.{Below, Zero, Above}
use Rattle.fraction_theory.proofs.Ring.{by_ring, at, pneg}
use Rattle.fraction_theory.proofs.FieldLaws.{ring_ℚ}
use Rattle.fraction_theory.proofs.SumLaws.{prefix-all}
use Rattle.fraction_theory.proofs.ListSums.{same_or_not, Contains-from_filter}
use Rattle.linear_system.specs.Systems.{System}
use Rattle.linear_system.specs.Choices.{Choice, IsChoice, at_bound, basics, reduced, value, value_terms}
use Rattle.linear_system.specs.Numbers.{Kind, Factor, Quantity, Price, SystemNumber, is_high, is_low, is_value, SolvingNumber, is_number, is_fall, is_rise, is_turned as turned_in_solving}
use Rattle.linear_system.proofs.ChoiceLaws.{basics_are, is_other}
use Rattle.simplex_theory.specs.Steps.{opposite_if}
use Rattle.simplex_theory.specs.Stuck.{multiplier}
use Rattle.simplex_theory.proofs.StuckRows.{multiplier-itself, multiplier-basic, multiplier-other}
use Rattle.market_model.specs.declared.answered.Duals.{Duals}
use Rattle.market_model.specs.declared.participants.Parts.{Parts}
use Rattle.market_model.specs.declared.participants.Pickup.{Pickup}
use Rattle.market_data.specs.Scales.{share_one}
use Rattle.exact_fraction.specs.Passes.{IsTooLarge}
use Rattle.exact_fraction.proofs.Excesses.{over_within}
use Rattle.exact_fraction.proofs.Shares.{too_large_turned}
use Rattle.std.proofs.lemmas.Int.{ints}
use Rattle.std.proofs.lemmas.List.Elements.{All-contains}
use Rattle.market_model.specs.Market.{IsMarket, IsPickup}
use Rattle.market_model.specs.Dispatch.{Dispatch, IsDispatch, zero, places, block_at, unit_at, quantity, accepted, balance, empty, demand, demand_terms, output}
use Rattle.market_model.specs.Infeasibility.{block_weight, farkas_terms}
use Rattle.market_model.specs.declared.limits.Row.{Row}
use Rattle.market_model.specs.LimitRows.{rows, row_id, loses_unit, lost_unit, row_factor, row_pickup, share_value}
use Rattle.market_model.specs.Optimality.{Taken, bus_price, block_value, energy_worth, congestion_terms, names_row, named_rows, own_price, own_terms, price_terms, net_shadow_price, penalty_terms, unit_price, block_value_terms, welfare_terms}
use Rattle.market_model.specs.Reserves.{no_reserve, reserved_term}
use Rattle.market_model.specs.Settlement.{surplus_terms}
use Rattle.market_model.specs.SumTables.{injection_at, balance_from_bus, balance_of_all, flow_of_line, limited_row, output_of_lost, FlowSum, flow_in_balance, flow_in_limits, output_of_unit, BusPriceSum, own_price_of_unit, PriceSum, price_of_bus, price_of_unit, congestion_at, price_at, ReserveSum, reserve_of_all, reserve_in_room, used_of_room, WorthSum, energy_of_unit, reserve_of_unit, farkas_bound_of_all, left_of_all, paid_by_load, paid_to_unit, rent_of_row, paid_for_reserve, SettledSum, paid_output, paid_price, demand_of_bus, payment, paid_row, reserve_accepted, welfare_of_all, carried_on_line, carried_by_unit, limited_by_carried}
use Rattle.market_model.proofs.EnergyAlone.{no_offers, no_places, not_listed, no_units, no_unit, no_need, worth_is_price, welfare_alone}
use Rattle.market_model.proofs.FarkasLaw.{farkas_terms-bare}
use Rattle.market_model.proofs.RowLaws.{no_rows, no_row, bus_price-bare, congestion-bare, unit_price-bare}
use Rattle.market_model.proofs.RowMembers.{lost_unit-in, Contains-from_places}
use Rattle.market_model.proofs.UnitPrices.{surplus_terms-made}
use Rattle.market_system.specs.MarketSystem.{balance_name, need_name, in_order, is_among, rooms_in_order, taken_in_order, system_over, system_of, point_dispatch, choice_dispatch, choice_duals}
use Rattle.market_system.specs.MarketNumbers.{ClearingNumber, of_kind, of_solving, of_money, is_turned, MarketNumber, IsRightChoice, IsInjecting, IsFarkasOf}
use Rattle.market_system.specs.MarketNumbers.{NamedSum, offset_of, factor_of, of_flow, of_reserve, output_of, of_price, of_worth, of_welfare, of_settlement, of_farkas_price, of_farkas_worth, farkas_bound_of}
use Rattle.market_system.specs.MarketNumbers.{of_system, of_sum, is_fixed, is_up, is_down, is_load, is_shunt, is_limit, is_most_flow, is_line_offset, is_need, is_shift, is_loss, is_share, is_energy, is_up_dual, is_down_dual, is_reserve_price, is_room_price, is_farkas_energy, is_farkas_up, is_farkas_down, is_farkas_reserve, is_farkas_room, of_opposite}
use Rattle.market_system.specs.ModestMarkets.{IsModest, LawOfModestMarkets, modest_mw, modest_price}
use Rattle.market_system.specs.Growth.{GrowsBy}
use Rattle.market_system.proofs.SystemLaws.{nothing, variable_in}
use Rattle.market_system.proofs.ModestNumbers.{IsWholeWithin, whole_within, nil_within, wider, neg_within, plus_within, times_within, same_within, number_fits, TermsWithin, append_within, map_within, prefix_within}
use Rattle.market_system.proofs.ModestChoices.{entry_within, energy_within}
use Rattle.market_system.proofs.ModestMarkets.{most_injection, most_balance, most_value, most_output, most_of, signed_within, load_within, shunt_within, fixed_within, up_within, down_within, quantity_within, price_within, block_value_within, injection_within, balance_within, output_terms_within, output_within, demand_within, empty_small, empty_balance_within, dispatch_small, system_within, output_count, output_each}

part_above_within : (b : ℕ) (x : Fraction) → IsWholeWithin b x → IsWholeWithin b (part_above x)
part_above_within b x h = by_sign (sign_of x)
  where
    by_sign : (s : Sign) → IsWholeWithin b (where_above s x)
    by_sign Below = nil_within b
    by_sign Zero = nil_within b
    by_sign Above = h

-- the greatest number of 127 bits
abbrev most : ℕ
most = 2 ^ 127 - 1

abbrev NotTooLarge : Fraction → Type 0
NotTooLarge x = ¬ (IsTooLarge most x)

turned_small : (x : Fraction) → NotTooLarge x → NotTooLarge (neg_ℚ x)
turned_small x small large = small (subst (IsTooLarge most) (by_ring ring_ℚ (x ∷ []) (pneg (pneg (at 0))) (at 0) refl) (too_large_turned most (neg_ℚ x) large))

-- the first terms of a sum
sums_within : (terms : List Term) (b : ℕ) → length terms ≤ 4001 → TermsWithin b terms → 4001 * b ≤ most → (k : ℕ) → IsWholeWithin most (prefix k terms)
sums_within terms b count each room k = wider (4001 * b) most (prefix k terms) room (prefix_within 4001 b k terms count each)

module _ (m : Parts) (market : IsMarket m) (lines : m.lines ≡ []) (energy : m.reserve ≡ no_reserve) (modest : IsModest m) where
  bare : rows m ≡ []
  bare = no_rows m lines

  no_line : (l : ℕ) → l < length m.lines → ⊥
  no_line l lt = let none : length m.lines ≡ 0 = ap length lines in Prim.omega (arith, lt, none)

  -- without limit rows congestion has no terms
  congestion_within : (b k i : ℕ) (d : Duals Fraction) → IsWholeWithin b (prefix k (congestion_terms m d i))
  congestion_within b k i d = subst (λ (rs : List Row). IsWholeWithin b (prefix k (map (λ r. Product (neg_ℚ (net_shadow_price m d r)) (row_factor m r i)) rs))) (sym bare)
      (wider (0 * b) b (prefix k []) (Prim.omega arith) (prefix_within 0 b k [] (Prim.omega arith) tt))

  no_offer : (n : ℕ) → n < length m.reserve.offers → ⊥
  no_offer n lt = let few = ap length (no_offers m energy) in Prim.omega (arith, lt, few)

  -- over no rows, whatever rooms are listed; the price of reserve of duals that show that nothing is feasible is 0
  module _ (g : Taken) (none : taken_in_order m g ≡ nothing) (h : Choice) (choice : IsChoice (system_of m g) h) (free : (d : Duals Fraction) → IsFarkasOf m g h d → d.reserve ≡ zero) where
    same_system : system_of m g ≡ system_of m nothing
    same_system = ap (system_over m) none

    is : IsChoice (system_of m nothing) h
    is = subst (λ (s : System). IsChoice s h) same_system choice

    same_dispatch : choice_dispatch m g h ≡ choice_dispatch m nothing h
    same_dispatch = ap (λ (s : System). point_dispatch m (value s h)) same_system

    chosen_small : IsDispatch m (choice_dispatch m g h) → (j : ℕ) → j < length m.blocks → IsWholeWithin modest_mw (accepted (choice_dispatch m g h) j)
    chosen_small d j lt =
        subst (λ (y : Dispatch). IsWholeWithin modest_mw (accepted y j)) (sym same_dispatch)
        (dispatch_small m market modest energy h is (subst (λ (y : Dispatch). IsDispatch m y) same_dispatch d) j lt)

    injecting_small : (x : Dispatch) → IsInjecting m g h x → (j : ℕ) → j < length m.blocks → IsWholeWithin modest_mw (accepted x j)
    injecting_small x (inl e) j lt = subst (λ (y : Dispatch). IsWholeWithin modest_mw (accepted y j)) (sym e) (empty_small m market modest j lt)
    injecting_small x (inr q) j lt =
        subst (λ (y : Dispatch). IsWholeWithin modest_mw (accepted y j)) (sym q.0)
        (chosen_small (subst (λ (y : Dispatch). IsDispatch m y) q.0 q.1.feasible.blocks) j lt)

    best_small : IsRightChoice m g h → (j : ℕ) → j < length m.blocks → IsWholeWithin modest_mw (accepted (choice_dispatch m g h) j)
    best_small best j lt = chosen_small best.feasible.blocks j lt

    -- the price of energy, and at a bus
    price_is_modest : IsWholeWithin modest_price (choice_duals m g h).energy
    price_is_modest = subst (λ (s : System). IsWholeWithin modest_price (neg_ℚ (reduced s h (balance_name m)))) (sym same_system) (energy_within m energy h is modest_price (price_within m market modest))

    bus_price_within : (b : ℕ) (d : Duals Fraction) (i : ℕ) → IsWholeWithin b d.energy → IsWholeWithin b (bus_price m d i)
    bus_price_within b d i e = subst (IsWholeWithin b) (sym (bus_price-bare m d i bare)) e

    unit_price_within : (b : ℕ) (d : Duals Fraction) (u : ℕ) → IsWholeWithin b d.energy → IsWholeWithin b (unit_price m d u)
    unit_price_within b d u e = subst (IsWholeWithin b) (sym (unit_price-bare m d u bare)) e

    worth_within : (b : ℕ) (d : Duals Fraction) (u : ℕ) → IsWholeWithin b d.energy → IsWholeWithin b (energy_worth m d u)
    worth_within b d u e = subst (IsWholeWithin b) (sym (worth_is_price m energy d u)) (unit_price_within b d u e)

    -- the own price of a unit, at the bus prices: with no row after its loss, that of its bus
    own_price_within : (b : ℕ) (d : Duals Fraction) (u : ℕ) → IsWholeWithin b d.energy → IsWholeWithin b (own_price m d (bus_price m d) u)
    unfolding unit_price
    own_price_within b d u e = unit_price_within b d u e

    own_terms_within : (b most k : ℕ) (d : Duals Fraction) (u : ℕ) → 2 * b ≤ most → IsWholeWithin b d.energy → IsWholeWithin most (prefix k (own_terms m d (bus_price m d) u))
    own_terms_within b most k d u wide e =
        subst (λ (rs : List Row). IsWholeWithin most (prefix k (Plain (bus_price m d (unit_at m u).bus) ∷ map (λ r. Product (neg_ℚ (net_shadow_price m d r)) (row_pickup m r.line r.cause)) (filter (λ r. loses_unit m u r.cause) rs)))) (sym bare)
        (wider (1 * b) most (prefix k (Plain (bus_price m d (unit_at m u).bus) ∷ [])) (Prim.omega (arith, wide))
        (prefix_within 1 b k (Plain (bus_price m d (unit_at m u).bus) ∷ []) (Prim.omega arith) (bus_price_within b d (unit_at m u).bus e, tt)))

    -- at duals that show that nothing is feasible
    farkas_energy_within : (d : Duals Fraction) → IsFarkasOf m g h d → IsWholeWithin 1 d.energy
    farkas_energy_within d f = same_within 1 d.energy (multiplier h f.basic (balance_name m)) f.energy at_balance
      where
        basic : Contains (basics (system_of m nothing) h) f.basic
        basic = subst (λ (s : System). Contains (basics s h) f.basic) same_system f.is_basic

        inside : Contains (system_of m nothing).variables (balance_name m)
        inside = variable_in m energy (balance_name m) (Prim.omega arith)

        at_test : (apart : ¬ (balance_name m ≡ f.basic)) (b : Bool) → h.basic (balance_name m) ≡ b → IsWholeWithin 1 (multiplier h f.basic (balance_name m))
        at_test apart true e = subst (IsWholeWithin 1) (sym (multiplier-basic (system_of m nothing) h f.basic (balance_name m) apart e)) (nil_within 1)
        at_test apart false e = subst (IsWholeWithin 1) (sym (multiplier-other (system_of m nothing) h f.basic (balance_name m) apart e))
            (neg_within 1 (h.entry f.basic (balance_name m)) (entry_within m energy h is f.basic (balance_name m) basic (is_other (system_of m nothing) h (balance_name m) inside e)))

        at_balance : IsWholeWithin 1 (multiplier h f.basic (balance_name m))
        at_balance = elim (same_or_not (balance_name m) f.basic) [
          | inl e ↦ subst (IsWholeWithin 1) (sym (multiplier-itself (system_of m nothing) h f.basic (balance_name m) e)) (whole_within 1 (pos 1) (Prim.omega arith))
          | inr apart ↦ at_test apart (h.basic (balance_name m)) refl
        ]

    farkas_within : (d : Duals Fraction) (k : ℕ) → IsFarkasOf m g h d → IsWholeWithin most_value (prefix k (farkas_terms m d))
    farkas_within d k f = subst (λ (ts : List Term). IsWholeWithin most_value (prefix k ts)) (sym (farkas_terms-bare m d bare energy))
        (prefix_within 4001 most_balance k (Product d.energy (balance m (empty m)) ∷ map weighed (places (length m.blocks)))
        (Prim.omega (arith, length-map (places (length m.blocks)) weighed, length-range_with_len 0 (length m.blocks), market.block_count)) (
          times_within 1 most_balance d.energy (balance m (empty m)) (farkas_energy_within d f) (empty_balance_within m market modest),
          map_within most_balance weighed (places (length m.blocks)) (λ j c. let lt = Contains-from_places (length m.blocks) j c in
              wider modest_mw most_balance (part_above (block_weight m d j) *ℚ quantity m j) (Prim.omega arith)
              (times_within 1 modest_mw (part_above (block_weight m d j)) (quantity m j)
              (part_above_within 1 (block_weight m d j) (signed_within 1 (block_at m j).side (energy_worth m d (block_at m j).unit) (worth_within 1 d (block_at m j).unit (farkas_energy_within d f))))
              (quantity_within m market modest j lt))),
        ))
      where
        weighed : ℕ → Term
        weighed j = Product (part_above (block_weight m d j)) (quantity m j)

    -- the first terms of each sum that has a kind
    abbrev WithinOf : Option Kind → Fraction → Type 0
    WithinOf (Some kind) x = IsWholeWithin (most_of kind) x
    WithinOf None x = Unit {0}

    bus_price_sum_within : (b most k : ℕ) (d : Duals Fraction) (i : ℕ) (terms : List Term) → BusPriceSum m d i terms → 2 * b ≤ most → IsWholeWithin b d.energy → IsWholeWithin most (prefix k terms)
    bus_price_sum_within b most k d i terms congestion_at wide e = congestion_within most k i d
    bus_price_sum_within b most k d i terms price_at wide e = wider (2 * b) most (prefix k (price_terms m d i)) wide
        (prefix_within 2 b k (price_terms m d i) (Prim.omega arith) (e, (subst (IsWholeWithin b) (sym (congestion-bare m d i bare)) (nil_within b), tt)))

    price_sum_within : (b most k : ℕ) (d : Duals Fraction) (terms : List Term) → PriceSum m d terms → 2 * b ≤ most → IsWholeWithin b d.energy → IsWholeWithin most (prefix k terms)
    price_sum_within b most k d terms (price_of_bus i same lt part) wide e = bus_price_sum_within b most k d i terms part wide e
    price_sum_within b most k d terms (price_of_unit same (own_price_of_unit u lt)) wide e = own_terms_within b most k d u wide e

    flow_sum_within : (x : Dispatch) (k : ℕ) (terms : List Term) → IsInjecting m g h x → FlowSum m x terms → IsWholeWithin most_value (prefix k terms)
    flow_sum_within x k terms j (flow_in_balance same (balance_from_bus also (injection_at i lt))) = wider most_injection most_value (prefix k terms) (Prim.omega arith) (injection_within m market modest x (injecting_small x j) i k lt)
    flow_sum_within x k terms j (flow_in_balance same balance_of_all) = wider most_balance most_value (prefix k terms) (Prim.omega arith) (balance_within m market modest x (injecting_small x j) k)
    flow_sum_within x k terms j (flow_in_limits same (limited_by_carried also (carried_on_line too (flow_of_line l lt)))) = absurd (no_line l lt)
    flow_sum_within x k terms j (flow_in_limits same (limited_by_carried also (carried_by_unit too (output_of_lost o lt)))) =
        wider most_output most_value (prefix k terms) (Prim.omega arith) (output_terms_within m market modest x (injecting_small x j) (lost_unit m o) k (lost_unit-in m market o lt))
    flow_sum_within x k terms j (flow_in_limits same (limited_row r also c part)) = absurd (no_row m r bare c)

    -- nothing of reserve counts
    reserve_sum_within : (x : Dispatch) (k : ℕ) (terms : List Term) → ReserveSum m x terms → IsWholeWithin most_value (prefix k terms)
    reserve_sum_within x k terms (reserve_accepted same reserve_of_all) = subst (λ (ns : List ℕ). IsWholeWithin most_value (prefix k (map (reserved_term x) ns))) (sym (no_places m energy))
        (wider (0 * 1) most_value (prefix k []) (Prim.omega arith) (prefix_within 0 1 k [] (Prim.omega arith) tt))
    reserve_sum_within x k terms (reserve_in_room same (used_of_room u c)) = absurd (no_unit m energy u c)

    no_worth : (d : Duals Fraction) (terms : List Term) → WorthSum m d terms → ⊥
    no_worth d terms (energy_of_unit u c) = no_unit m energy u c
    no_worth d terms (reserve_of_unit u c) = no_unit m energy u c

    no_reserve_price : (choice_duals m g h).reserve ≡ zero
    no_reserve_price = ap (λ (b : Bool). if b then part_above (neg_ℚ (reduced (system_of m g) h (need_name m))) else zero) (not_listed m energy)

    sum_within : (kind : Option Kind) (terms : List Term) (k : ℕ) → NamedSum m g h kind terms → WithinOf kind (prefix k terms)
    sum_within _ terms k (offset_of r same c part) = absurd (no_row m r bare c)
    sum_within _ terms k (factor_of r same c part) = absurd (no_row m r bare c)
    sum_within _ terms k (of_flow x same j flow) = flow_sum_within x k terms j flow
    sum_within _ terms k (of_reserve x same j part) = reserve_sum_within x k terms part
    sum_within _ terms k (output_of same best (output_of_unit u lt)) = wider most_output most_value (prefix k terms) (Prim.omega arith) (output_terms_within m market modest (choice_dispatch m g h) (best_small best) u k lt)
    sum_within _ terms k (of_price same best price) = price_sum_within modest_price (4000 * modest_price) k (choice_duals m g h) terms price (Prim.omega arith) price_is_modest
    sum_within _ terms k (of_worth same best worth) = absurd (no_worth (choice_duals m g h) terms worth)
    sum_within _ terms k (of_welfare same best part) = tt
    sum_within _ terms k (of_settlement same best part) = tt
    sum_within _ terms k (of_farkas_price d same f price) = price_sum_within 1 4000 k d terms price (Prim.omega arith) (farkas_energy_within d f)
    sum_within _ terms k (of_farkas_worth d same f worth) = absurd (no_worth d terms worth)
    sum_within _ terms k (farkas_bound_of d same f farkas_bound_of_all) = farkas_within d k f

    -- a number of a kind, or two of them, are small
    wide : (kind : Kind) → most_of kind + most_of kind ≤ most
    wide Factor = Prim.omega arith
    wide Quantity = Prim.omega arith
    wide Price = Prim.omega arith

    kind_within : (kind : Kind) (x : Fraction) → IsWholeWithin (most_of kind) x → IsWholeWithin most x
    kind_within kind x n = wider (most_of kind) most x (Prim.omega (arith, wide kind)) n

    -- each number of the market is whole and small, but for the shares of what is picked up
    kind_fits : (kind : Kind) (x : Fraction) → IsWholeWithin (most_of kind) x → NotTooLarge x
    kind_fits kind x n = number_fits most x (Prim.omega arith) (kind_within kind x n)

    share_fits : (p : Pickup) → Contains m.pickups p → NotTooLarge (share_value p)
    share_fits p c large =
        let is_pickup = All-contains (IsPickup (length m.unit_outages) (length m.units)) m.pickups p market.unit_outages.pickups c in
        let size = over_within p.share share_one (Prim.omega arith) in
        elim large [
          | inl n ↦ Prim.omega (arith, ints, is_pickup.above, is_pickup.most, size.0, n)
          | inr n ↦ Prim.omega (arith, size.1, n)
        ]

    number_small : (kind : Kind) (x : Fraction) → MarketNumber m g h kind x → NotTooLarge x
    number_small kind x (of_system same y n) = kind_fits same y (system_within m market modest energy h is same y (subst (λ (s : System). SystemNumber s h same y) same_system n))
    number_small Quantity x (is_fixed u lt) = kind_fits Quantity x (wider modest_mw most_value x (Prim.omega arith) (fixed_within m market modest u lt))
    number_small Quantity x (is_up u lt) = kind_fits Quantity x (wider modest_mw most_value x (Prim.omega arith) (up_within m market modest u lt))
    number_small Quantity x (is_down u lt) = kind_fits Quantity x (wider modest_mw most_value x (Prim.omega arith) (down_within m market modest u lt))
    number_small Quantity x (is_load i lt) = kind_fits Quantity x (wider modest_mw most_value x (Prim.omega arith) (load_within m market modest i lt))
    number_small Quantity x (is_shunt i lt) = kind_fits Quantity x (wider modest_mw most_value x (Prim.omega arith) (shunt_within m market modest i lt))
    number_small Quantity x (is_limit r c) = absurd (no_row m r bare c)
    number_small Quantity x (is_most_flow r c) = absurd (no_row m r bare c)
    number_small Quantity x (is_line_offset l lt) = absurd (no_line l lt)
    number_small Quantity x is_need = kind_fits Quantity x (subst (IsWholeWithin most_value) (sym (no_need m energy)) (nil_within most_value))
    number_small Factor x (is_shift l i lt k) = absurd (no_line l lt)
    number_small Factor x (is_loss l lost lt k) = absurd (no_line l lt)
    number_small Factor x (is_share p c) = share_fits p c
    number_small Price x is_energy = kind_fits Price x (wider modest_price (4000 * modest_price) x (Prim.omega arith) price_is_modest)
    number_small Price x (is_up_dual r c) = absurd (no_row m r bare c)
    number_small Price x (is_down_dual r c) = absurd (no_row m r bare c)
    number_small Price x is_reserve_price = kind_fits Price x (subst (IsWholeWithin (4000 * modest_price)) (sym no_reserve_price) (nil_within (4000 * modest_price)))
    number_small Price x (is_room_price u c) = absurd (no_unit m energy u c)
    number_small Factor x (is_farkas_energy d f) = kind_fits Factor x (wider 1 4000 x (Prim.omega arith) (farkas_energy_within d f))
    number_small Factor x (is_farkas_up d r f c) = absurd (no_row m r bare c)
    number_small Factor x (is_farkas_down d r f c) = absurd (no_row m r bare c)
    number_small Factor x (is_farkas_reserve d f) = kind_fits Factor x (subst (IsWholeWithin 4000) (sym (free d f)) (nil_within 4000))
    number_small Factor x (is_farkas_room d u f c) = absurd (no_unit m energy u c)
    number_small kind x (of_sum same terms k named) = kind_fits same x (sum_within (Some same) terms k named)
    number_small kind x (of_opposite same y n) = turned_small y (number_small same y n)

    -- the first terms of the welfare, and of what is settled
    welfare_each : IsRightChoice m g h → TermsWithin (modest_price * most_output) (block_value_terms m (choice_dispatch m g h))
    welfare_each best = map_within (modest_price * most_output) (λ j. Product (block_value m j) (accepted (choice_dispatch m g h) j)) (places (length m.blocks))
        (λ j c. let lt = Contains-from_places (length m.blocks) j c in
        times_within modest_price most_output (block_value m j) (accepted (choice_dispatch m g h) j) (block_value_within m market modest j lt)
        (wider modest_mw most_output (accepted (choice_dispatch m g h) j) (Prim.omega arith) (best_small best j lt)))

    abbrev paying : ℕ → Term
    paying i = Plain (bus_price m (choice_duals m g h) i *ℚ demand m i)

    abbrev paid : ℕ → Term
    paid u = Plain (neg_ℚ (own_price m (choice_duals m g h) (bus_price m (choice_duals m g h)) u *ℚ output m (choice_dispatch m g h) u))

    surplus_each : IsRightChoice m g h → TermsWithin (modest_price * most_output) (map paying (places (length m.buses)) ++ map paid (places (length m.units)))
    surplus_each best = append_within (modest_price * most_output) (map paying (places (length m.buses))) (map paid (places (length m.units)))
        (map_within (modest_price * most_output) paying (places (length m.buses)) (λ i c.
        times_within modest_price most_output (bus_price m d i) (demand m i) (bus_price_within modest_price d i price_is_modest) (demand_within m market modest i (Contains-from_places (length m.buses) i c))))
        (map_within (modest_price * most_output) paid (places (length m.units)) (λ u c.
        neg_within (modest_price * most_output) (own_price m d (bus_price m d) u *ℚ output m x u) (times_within modest_price most_output (own_price m d (bus_price m d) u) (output m x u) (own_price_within modest_price d u price_is_modest)
        (output_within m market modest x (best_small best) u (Contains-from_places (length m.units) u c)))))
      where
        x : Dispatch
        x = choice_dispatch m g h

        d : Duals Fraction
        d = choice_duals m g h

    abbrev Fits : List Term → Type 0
    Fits terms = (k : ℕ) → IsWholeWithin most (prefix k terms)

    -- no limits, no penalties, and no reserve, no cost of it
    welfare-bare : (x : Dispatch) → welfare_terms m x ≡ block_value_terms m x
    welfare-bare x = welfare_alone m energy (rows m) x ∙ ap (λ (rs : List Row). block_value_terms m x ++ penalty_terms m rs x) bare ∙ append-nil (block_value_terms m x)

    welfare_fits : IsRightChoice m g h → Fits (welfare_terms m (choice_dispatch m g h))
    welfare_fits best = subst Fits (sym (welfare-bare (choice_dispatch m g h)))
        (sums_within (block_value_terms m (choice_dispatch m g h)) (modest_price * most_output)
        (Prim.omega (arith, market.block_count, length-map (places (length m.blocks)) (λ j. Product (block_value m j) (accepted (choice_dispatch m g h) j)), length-range_with_len 0 (length m.blocks)))
        (welfare_each best) (Prim.omega arith))

    surplus_fits : IsRightChoice m g h → Fits (surplus_terms m (choice_dispatch m g h) (choice_duals m g h))
    surplus_fits best = subst Fits (sym (surplus_terms-made m (choice_dispatch m g h) (bus_price m (choice_duals m g h)) (choice_duals m g h)))
        (sums_within (map paying (places (length m.buses)) ++ map paid (places (length m.units))) (modest_price * most_output)
        (Prim.omega (
          arith,
          market.bus_count,
          market.unit_count,
          length-append (map paying (places (length m.buses))) (map paid (places (length m.units))),
          length-map (places (length m.buses)) paying,
          length-map (places (length m.units)) paid,
          length-range_with_len 0 (length m.buses),
          length-range_with_len 0 (length m.units),
        ))
        (surplus_each best) (Prim.omega arith))

    no_named : (d : Duals Fraction) (r : Row) → Contains (named_rows m d) r → ⊥
    no_named d r c = no_row m r bare (Contains-from_filter (λ (s : Row). names_row d.limits (row_id m s)) (rows m) r c).0

    settled_fits : IsRightChoice m g h → (terms : List Term) → SettledSum m (choice_dispatch m g h) (bus_price m (choice_duals m g h)) (choice_duals m g h) terms → Fits terms
    settled_fits best terms (paid_output same (output_of_unit u lt)) =
        sums_within terms modest_mw (output_count m market modest (choice_dispatch m g h) (best_small best) u) (output_each m market modest (choice_dispatch m g h) (best_small best) u lt) (Prim.omega arith)
    settled_fits best terms (paid_price same (own_price_of_unit u lt)) = λ k. own_terms_within modest_price most k (choice_duals m g h) u (Prim.omega arith) price_is_modest
    settled_fits best terms (demand_of_bus i lt) = sums_within (demand_terms m i) modest_mw (Prim.omega arith) (load_within m market modest i lt, (shunt_within m market modest i lt, tt)) (Prim.omega arith)
    settled_fits best terms (payment same (paid_by_load i lt)) = sums_within terms (modest_price * most_output) (Prim.omega arith)
        (times_within modest_price most_output (bus_price m (choice_duals m g h) i) (demand m i) (bus_price_within modest_price (choice_duals m g h) i price_is_modest) (demand_within m market modest i lt), tt)
        (Prim.omega arith)
    settled_fits best terms (payment same (paid_to_unit u lt)) = sums_within terms (modest_price * most_output) (Prim.omega arith) (
      times_within modest_price most_output (own_price m (choice_duals m g h) (bus_price m (choice_duals m g h)) u) (output m (choice_dispatch m g h) u) (own_price_within modest_price (choice_duals m g h) u price_is_modest)
          (output_within m market modest (choice_dispatch m g h) (best_small best) u lt),
      tt,
    )
        (Prim.omega arith)
    settled_fits best terms (payment same left_of_all) = surplus_fits best
    settled_fits best terms (payment same (rent_of_row r c)) = absurd (no_named (choice_duals m g h) r c)
    settled_fits best terms (payment same (paid_for_reserve n lt)) = absurd (no_offer n lt)
    settled_fits best terms (paid_row r same c part) = absurd (no_named (choice_duals m g h) r c)

    abbrev FitsOf : Option Kind → List Term → Type 0
    FitsOf (Some kind) terms = Unit {0}
    FitsOf None terms = Fits terms

    named_fits : (kind : Option Kind) (terms : List Term) → NamedSum m g h kind terms → FitsOf kind terms
    named_fits _ terms (offset_of r same c part) = tt
    named_fits _ terms (factor_of r same c part) = tt
    named_fits _ terms (of_flow x same j flow) = tt
    named_fits _ terms (of_reserve x same j part) = tt
    named_fits _ terms (output_of same best part) = tt
    named_fits _ terms (of_price same best price) = tt
    named_fits _ terms (of_worth same best worth) = tt
    named_fits _ terms (of_welfare same best welfare_of_all) = welfare_fits best
    named_fits _ terms (of_settlement same best part) = settled_fits best terms part
    named_fits _ terms (of_farkas_price d same f price) = tt
    named_fits _ terms (of_farkas_worth d same f worth) = tt
    named_fits _ terms (farkas_bound_of d same f part) = tt

    -- and what a clear may have to write down
    value_within : (b : ℕ) → Contains (basics (system_of m nothing) h) b → IsWholeWithin most_value (value (system_of m nothing) h b)
    unfolding value
    value_within b c =
        let s = system_of m nothing in
        subst (IsWholeWithin most_value)
        (prefix-all (value_terms s h b) ∙ sym (ap (λ (x : Bool). if x then total (value_terms s h b) else at_bound s h b) (basics_are s h b c).1))
        (system_within m market modest energy h is Quantity (prefix (length (value_terms s h b)) (value_terms s h b)) (is_value b (length (value_terms s h b)) c))

    solving_within : (x : Fraction) → SolvingNumber (system_of m nothing) h x → IsWholeWithin most x
    solving_within _ (is_number kind x n) = kind_within kind x (system_within m market modest energy h is kind x n)
    solving_within _ (is_fall b c beyond first) =
        let s = system_of m nothing in
        wider (most_value + most_value) most (s.high b -ℚ value s h b) (wide Quantity)
        (plus_within most_value most_value (s.high b) (neg_ℚ (value s h b)) (system_within m market modest energy h is Quantity (s.high b) (is_high b (basics_are s h b c).0)) (neg_within most_value (value s h b) (value_within b c)))
    solving_within _ (is_rise b c beyond first) =
        let s = system_of m nothing in
        wider (most_value + most_value) most (value s h b -ℚ s.low b) (wide Quantity)
        (plus_within most_value most_value (value s h b) (neg_ℚ (s.low b)) (value_within b c) (neg_within most_value (s.low b) (system_within m market modest energy h is Quantity (s.low b) (is_low b (basics_are s h b c).0))))
    solving_within _ (turned_in_solving x n) = neg_within most x (solving_within x n)

    clearing_small : (x : Fraction) → ClearingNumber m g h x → NotTooLarge x
    clearing_small _ (of_kind kind x n) = number_small kind x n
    clearing_small _ (of_solving x n) = number_fits most x (Prim.omega arith) (solving_within x (subst (λ (s : System). SolvingNumber s h x) same_system n))
    clearing_small _ (of_money terms k named) = number_fits most (prefix k terms) (Prim.omega arith) (named_fits None terms named k)
    clearing_small _ (is_turned x n) = turned_small x (clearing_small x n)

  -- no rows can be taken
  nothing_taken : (more : List Row) → GrowsBy m [] more → more ≡ []
  nothing_taken [] g = refl
  nothing_taken (r ∷ more) g = absurd (no_row m r bare g.1)

  -- and no rooms
  no_rooms : (us : List ℕ) → rooms_in_order m us ≡ []
  no_rooms [] = refl
  no_rooms (u ∷ us) = ap (filter (is_among (u ∷ us))) (no_units m energy)

  nothing_in_order : (g : Taken) → g.limits ≡ [] → taken_in_order m g ≡ nothing
  nothing_in_order g e = ap₂ (λ (rs : List Row) (us : List ℕ). record { limits = rs; rooms = us }) (ap (in_order m) e) (no_rooms g.rooms)

-- the law, where duals that show that nothing is feasible have no price of reserve in a market without it
pub modest_markets_where : ((m : Parts) (g : Taken) (h : Choice) (d : Duals Fraction) → m.reserve.listed ≡ false → IsFarkasOf m g h d → d.reserve ≡ zero) → LawOfModestMarkets
modest_markets_where free m market lines unlisted modest g h x reached is n =
    let energy = market.reserve.unlisted unlisted in
    let none : g.limits ≡ [] = reached.1 ∙ nothing_taken m market lines energy modest reached.0 reached.2 in
    clearing_small m market lines energy modest g (nothing_in_order m market lines energy modest g none) h is (λ d f. free m g h d unlisted f) x n

pub law_of_modest_markets : LawOfModestMarkets
law_of_modest_markets = modest_markets_where (λ m g h d unlisted f. f.reserve ∙ ap (λ (t : Bool). if t then part_above (neg_ℚ (opposite_if (not f.above) (multiplier h f.basic (need_name m)))) else zero) unlisted)
