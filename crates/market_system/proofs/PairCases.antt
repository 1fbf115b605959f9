-- What is refused outside the dictionary is a working pair of the market over the rows in hand: each operation by its name.
use Rattle.std.specs.Prelude.{◌≡◌, ℕ, Contains, ◌+◌, ◌<◌, ◌==◌, pos, Bool, true, false, if◌then◌else◌, List, [], ◌∷◌, ◌++◌, ◌||◌, length, map, filter, slice_index_or, refl, ◌⊎◌, Option, Some, None}
use Rattle.std.specs.List.{flat_map}
use Rattle.std.proofs.Common.{zero, suc, arith, ap, ap₂, sym, ◌∙◌, subst, inl, inr, get_or}
use Rattle.std.proofs.lemmas.Bool.Decides.{eqb_tells}
use Rattle.std.proofs.lemmas.List.FromFn.{length-range_with_len, get_or-range_with_len}
use Rattle.fraction_theory.specs.Fraction.{Fraction, whole, neg_ℚ, ◌+ℚ◌, ◌-ℚ◌, ◌*ℚ◌}
use Rattle.fraction_theory.specs.Sums.{Term, Plain, Product, term_value, prefix, total}
use Rattle.fraction_theory.proofs.Ring.{by_ring, by_ring1, at, pnil, pone, pneg, ◌⊕◌, ◌⊗◌}
use Rattle.fraction_theory.proofs.FieldLaws.{ring_ℚ}
use Rattle.fraction_theory.specs.Signs.{sign_of, where_above}
use Rattle.fraction_theory.specs.declared.Sign.{Sign}
use Rattle.fraction_theory.specs.declared.Sign.TheVariants.{Below, Zero, Above}
use Rattle.fraction_theory.proofs.SumLaws.{prefix-more, prefix-all}
use Rattle.exact_fraction.specs.declared.Op.{Op}
use Rattle.exact_fraction.specs.declared.Op.TheVariants.{Plus, Minus, Times}
use Rattle.exact_fraction.specs.declared.Passed.{Passed}
use Rattle.exact_fraction.specs.Passes.{IsTooLarge, Passes, outcome}
use Rattle.exact_fraction.proofs.Shares.{too_large_turned}
use Rattle.linear_system.specs.Choices.{Choice, IsChoice}
use Rattle.linear_system.specs.Numbers.{Kind, Factor, Quantity, Price, SolvingNumber, SystemNumber, is_zero, is_high}
use Rattle.linear_system.specs.Pairs.{IsCombined, alone, sum, difference, IsSummand, plain, IsPairCase, added, subtracted, scaled_right, scaled_left, AtEither, IsForLarge, added_to, itself, OfEither, IsSystemPair}
use Rattle.linear_system.proofs.PairLaws.{IsForLarge-each, IsPairCase-each, IsScaling, less_large}
use Rattle.fraction_theory.proofs.ListSums.{Contains-head, Contains-cons, Contains-from_filter}
use Rattle.std.proofs.lemmas.List.Elements.{All-contains}
use Rattle.market_model.specs.declared.answered.Duals.{Duals}
use Rattle.market_model.specs.declared.participants.Parts.{Parts}
use Rattle.market_model.specs.declared.participants.Pickup.{Pickup}
use Rattle.market_model.specs.declared.participants.ReserveOffer.{ReserveOffer}
use Rattle.market_model.specs.declared.participants.Side.{Side}
use Rattle.market_model.specs.declared.participants.Side.TheVariants.{Sell, Buy}
use Rattle.market_model.specs.Dispatch.{Dispatch, zero as nil, places, bus_at, unit_at, block_at, offer_at, units_at, blocks_at, blocks_of, fixed_term, block_term, signed_by_side, quantity, reserve_quantity, injection, injection_terms, output, output_terms, balance, balance_terms, empty}
use Rattle.limit_rows.proofs.ApartLemmas.{names_apart}
use Rattle.market_model.specs.declared.limits.Cause.{Cause}
use Rattle.market_model.specs.declared.limits.Row.{Row}
use Rattle.market_model.specs.declared.limits.Cause.TheVariants.{Base, Branch, UnitOutage}
use Rattle.market_model.specs.LimitRows.{IsCauseOf, carried, rows, loses_unit, lost_output, lost_unit, most_flow, picked_up_terms, pickup_factor, pickup_terms, pickups_of, row_pickup, shift_factor, share_value, taker_terms, line_offset, line_terms, line_flow, flow_terms, terms_under, row_factor, factor_terms, flow}
use Rattle.market_model.specs.Market.{IsMarket, IsPickup}
use Rattle.market_model.specs.NamedSums.{SameSize, term_at, IsNextTerm, IsSumStep, IsRefusedIn, IsRefusal}
use Rattle.market_model.specs.Optimality.{Taken, net_shadow_price, up_of, down_of, bus_price, own_terms, unit_price, room_price, room_price_in, worth_terms, energy_worth, reserve_worth_terms, reserve_worth}
use Rattle.market_model.specs.Reserves.{offers_among, offers_reserve, offer_places, offers_of, reserve_need, reserve_units, reserved_term, room}
use Rattle.market_model.specs.Infeasibility.{block_most, block_weight, offer_most, offer_weight, limit_terms, reserve_left_terms, nothing_terms, farkas_terms}
use Rattle.market_model.specs.SumTables.{injection_at, balance_from_bus, balance_of_all, flow_of_line, flow_of_row, output_of_lost, limited_row, FlowSum, flow_in_balance, flow_in_limits, offset_of_row, pickup_of_row, factor_at_bus, factor_of_pickup, output_of_unit, BusPriceSum, own_price_of_unit, PickupSum, PriceSum, price_of_bus, price_of_unit, congestion_at, price_at, ReserveSum, reserve_of_all, reserve_in_room, used_of_room, WorthSum, energy_of_unit, reserve_of_unit, farkas_bound_of_all, factor_of_bus, reserve_accepted, carried_on_line, carried_by_unit, limited_by_carried}
use Rattle.market_model.proofs.MarketSums.{block_unit-in, unit_bus-in}
use Rattle.market_model.proofs.ReserveSums.{offer_unit-in}
use Rattle.market_model.proofs.RoomLemmas.{listed-inside, offers-listed}
use Rattle.market_model.proofs.RowMembers.{at_places, Contains-from_places}
use Rattle.market_system.specs.Growth.{Growth}
use Rattle.market_system.specs.MarketNumbers.{ClearingNumber, of_kind, of_money, of_solving, is_turned, IsInjecting, IsFarkasOf, NamedSum, offset_of, factor_of, of_flow, of_reserve, output_of, of_price, of_worth, of_welfare, of_settlement, of_farkas_price, of_farkas_worth, farkas_bound_of, MarketNumber, of_system, of_sum, is_most_flow, is_line_offset, is_shift, is_loss, is_share, is_up, is_need, is_up_dual, is_down_dual, is_farkas_energy, is_farkas_up, is_farkas_down, is_farkas_reserve, is_farkas_room, of_opposite}
use Rattle.market_system.specs.MarketSystem.{IsVariableOf, high, name, system_of, taken_in_order, choice_dispatch, choice_duals}
use Rattle.market_system.specs.declared.variables.Variable.{Variable}
use Rattle.market_system.specs.declared.variables.Variable.TheVariants.{Block, Offer}
use Rattle.market_system.specs.PairLaw.{LawOfThePairs}
use Rattle.market_system.proofs.DualLists.{rows_apart}
use Rattle.market_system.proofs.RowOrder.{AreInOrder}
use Rattle.market_system.proofs.VariableLaws.{high-at, taken-in_order, variable_in}
use Rattle.market_system.specs.WorkingPairs.{IsRangeOf}

-- ---- numbers of any sort that count with either sign
module _ (N : Kind → Fraction → Type 0) (opposite : (kind : Kind) (x : Fraction) → N kind x → N kind (neg_ℚ x)) (kind : Kind) where
  sized : (x y : Fraction) → SameSize x y → N kind y → N kind x
  sized x y (inl e) h = subst (N kind) (sym e) h
  sized x y (inr e) h = subst (N kind) (sym e) (opposite kind y h)

  combined_opposite : (x : Fraction) → IsCombined N kind x → IsCombined N kind (neg_ℚ x)
  combined_opposite _ (alone x h) = alone (neg_ℚ x) (opposite kind x h)
  combined_opposite _ (sum x y h k) = subst (IsCombined N kind) (by_ring ring_ℚ (x ∷ y ∷ []) (pneg (at 0) ⊕ pneg (at 1)) (pneg (at 0 ⊕ at 1)) refl) (sum (neg_ℚ x) (neg_ℚ y) (opposite kind x h) (opposite kind y k))
  combined_opposite _ (difference x y h k) = subst (IsCombined N kind) (by_ring ring_ℚ (x ∷ y ∷ []) (at 1 ⊕ pneg (at 0)) (pneg (at 0 ⊕ pneg (at 1))) refl) (difference y x k h)

  combined_sized : (x y : Fraction) → SameSize x y → IsCombined N kind y → IsCombined N kind x
  combined_sized x y (inl e) h = subst (IsCombined N kind) (sym e) h
  combined_sized x y (inr e) h = subst (IsCombined N kind) (sym e) (combined_opposite y h)

  module _ (terms : List Term) (numbers : (k : ℕ) → N kind (prefix k terms)) where
    term_is : (k : ℕ) → k < length terms → term_value (term_at terms k) ≡ prefix (k + 1) terms -ℚ prefix k terms
    term_is k h =
        by_ring1 ring_ℚ (term_value (term_at terms k) ∷ prefix k terms ∷ prefix (k + 1) terms ∷ []) (at 0) (at 2 ⊕ pneg (at 1)) (pneg pone) (at 2) (at 1 ⊕ at 0)
        (prefix-more k terms (Plain (whole (pos 0))) h) refl

    -- the operation adds or subtracts
    abbrev Adds : Op → Type 0
    Adds Plus = Unit {0}
    Adds Minus = Unit {0}
    Adds Times = ⊥

    added_case : (op : Op) (l r : Fraction) (k : ℕ) → Adds op → IsNextTerm terms op l r k → IsPairCase N op l r
    added_case op l r k adds h = by op adds
      where
        left : IsSummand N kind l
        left = plain l (alone l (sized l (prefix k terms) h.before (numbers k)))

        right : IsSummand N kind r
        right = plain r (combined_sized r (term_value (term_at terms k)) h.next (subst (IsCombined N kind) (sym (term_is k h.inside)) (difference (prefix (k + 1) terms) (prefix k terms) (numbers (k + 1)) (numbers k))))

        by : (o : Op) → Adds o → IsPairCase N o l r
        by Plus a = added kind l r left right
        by Minus a = subtracted kind l r left right
        by Times a = absurd a

    -- and each product among them is of a factor and a number
    module _ (products : (k : ℕ) (a b : Fraction) → k < length terms → term_at terms k ≡ Product a b → IsScaling N kind a b)
        (factor_sized : (x y : Fraction) → SameSize x y → N Factor y → N Factor x) where
      step_case : (op : Op) (l r : Fraction) (k : ℕ) → IsSumStep terms op l r k → IsPairCase N op l r
      step_case Plus l r k next = added_case Plus l r k tt next
      step_case Minus l r k next = added_case Minus l r k tt next
      step_case Times l r k (a, b, f) = elim (products k a b f.inside f.product) [
        | inl n ↦ elim f.sides [
          | inl s ↦ scaled_right kind l r (factor_sized l a s.0 n.0) (combined_sized r b s.1 n.1)
          | inr s ↦ scaled_left kind l r (combined_sized l b s.0 n.1) (factor_sized r a s.1 n.0)
        ]
        | inr n ↦ elim f.sides [
          | inl s ↦ scaled_left kind l r (combined_sized l a s.0 n.0) (factor_sized r b s.1 n.1)
          | inr s ↦ scaled_right kind l r (factor_sized l b s.0 n.1) (combined_sized r a s.1 n.0)
        ]
      ]

-- the product of two numbers by their sizes
same_product : (l r a b : Fraction) → SameSize l a → SameSize r b → SameSize (l *ℚ r) (a *ℚ b)
same_product l r a b (inl e) (inl f) = inl (ap₂ ◌*ℚ◌ e f)
same_product l r a b (inl e) (inr f) = inr (ap₂ ◌*ℚ◌ e f ∙ by_ring ring_ℚ (a ∷ b ∷ []) (at 0 ⊗ pneg (at 1)) (pneg (at 0 ⊗ at 1)) refl)
same_product l r a b (inr e) (inl f) = inr (ap₂ ◌*ℚ◌ e f ∙ by_ring ring_ℚ (a ∷ b ∷ []) (pneg (at 0) ⊗ at 1) (pneg (at 0 ⊗ at 1)) refl)
same_product l r a b (inr e) (inr f) = inl (ap₂ ◌*ℚ◌ e f ∙ by_ring ring_ℚ (a ∷ b ∷ []) (pneg (at 0) ⊗ pneg (at 1)) (at 0 ⊗ at 1) refl)

pub sides_product : (l r a b : Fraction) → (SameSize l a × SameSize r b) ⊎ (SameSize l b × SameSize r a) → SameSize (l *ℚ r) (a *ℚ b)
sides_product l r a b (inl q) = same_product l r a b q.0 q.1
sides_product l r a b (inr q) = subst (SameSize (l *ℚ r)) (ring_ℚ.times_comm b a) (same_product l r b a q.0 q.1)

-- numbers that count with either sign, and the first terms of a sum among them: what is refused in it is on the way to one that is too large
module _ (M : Fraction → Type 0) (turned : (x : Fraction) → M x → M (neg_ℚ x)) (terms : List Term) (numbers : (k : ℕ) → M (prefix k terms)) where
  turned_as : (x y : Fraction) → SameSize x y → M y → M x
  turned_as x y (inl e) h = subst M (sym e) h
  turned_as x y (inr e) h = subst M (sym e) (turned y h)

  large_as : (bound : ℕ) (x y : Fraction) → SameSize x y → IsTooLarge bound y → IsTooLarge bound x
  large_as bound x y (inl e) h = subst (IsTooLarge bound) (sym e) h
  large_as bound x y (inr e) h = subst (IsTooLarge bound) (sym e) (too_large_turned bound y h)

  -- the outcome is the sum with the term
  outcome_large : (bound k : ℕ) (op : Op) (l r : Fraction) → IsNextTerm terms op l r k → IsTooLarge bound (prefix (k + 1) terms) → IsForLarge M bound op l r
  outcome_large bound k op l r next large = record {
    number = outcome op l r;
    is_number = turned_as (outcome op l r) (prefix (k + 1) terms) next.after (numbers (k + 1));
    too_large = large_as bound (outcome op l r) (prefix (k + 1) terms) next.after large;
    made = itself op l r;
  }

  -- the product is the term, up to sign, so that the sum before it, with the same sign, makes the sum with it
  product_large : (bound k : ℕ) (l r : Fraction) → k < length terms → SameSize (l *ℚ r) (term_value (term_at terms k)) → IsTooLarge bound (prefix (k + 1) terms) → IsForLarge M bound Times l r
  product_large bound k l r inside same large = by same
    where
      more : prefix (k + 1) terms ≡ prefix k terms +ℚ term_value (term_at terms k)
      more = prefix-more k terms (Plain (whole (pos 0))) inside

      by : SameSize (l *ℚ r) (term_value (term_at terms k)) → IsForLarge M bound Times l r
      by (inl e) = let is : prefix (k + 1) terms ≡ prefix k terms +ℚ l *ℚ r = more ∙ ap (λ t. prefix k terms +ℚ t) (sym e) in record {
        number = prefix k terms +ℚ l *ℚ r;
        is_number = subst M is (numbers (k + 1));
        too_large = subst (IsTooLarge bound) is large;
        made = added_to (prefix k terms) l r (numbers k);
      }
      by (inr e) =
          let is : neg_ℚ (prefix (k + 1) terms) ≡ neg_ℚ (prefix k terms) +ℚ l *ℚ r =
          ap neg_ℚ more ∙ by_ring ring_ℚ (prefix k terms ∷ term_value (term_at terms k) ∷ []) (pneg (at 0 ⊕ at 1)) (pneg (at 0) ⊕ pneg (at 1)) refl ∙ ap (λ t. neg_ℚ (prefix k terms) +ℚ t) (sym e) in
          record {
            number = neg_ℚ (prefix k terms) +ℚ l *ℚ r;
            is_number = subst M is (turned (prefix (k + 1) terms) (numbers (k + 1)));
            too_large = subst (IsTooLarge bound) is (too_large_turned bound (prefix (k + 1) terms) large);
            made = added_to (neg_ℚ (prefix k terms)) l r (turned (prefix k terms) (numbers k));
          }

  step_large : (bound : ℕ) (op : Op) (l r : Fraction) (k : ℕ) → IsSumStep terms op l r k → IsTooLarge bound (prefix (k + 1) terms) → IsForLarge M bound op l r
  step_large bound Plus l r k next large = outcome_large bound k Plus l r next large
  step_large bound Minus l r k next large = outcome_large bound k Minus l r next large
  step_large bound Times l r k (a, b, f) large =
      product_large bound k l r f.inside (subst (λ (t : Term). SameSize (l *ℚ r) (term_value t)) (sym f.product) (sides_product l r a b f.sides)) large

  pub sum_large : (bound : ℕ) (p : Passed Fraction) → IsRefusedIn terms bound p → IsForLarge M bound p.op p.left p.right
  sum_large bound p r = step_large bound p.op p.left p.right r.place r.step r.too_large

-- a working pair of the system is one of the market
pub of_system_pair : (m : Parts) (taken : List Row) (g : Taken) → Growth m taken g.limits → (bound : ℕ) (p : Passed Fraction) → IsSystemPair (system_of m g) bound p.op p.left p.right → IsRangeOf m taken bound p
of_system_pair m taken g reached bound p pair = record {
  over = g;
  reached = reached;
  pair = record {
    passes = pair.passes;
    one = pair.one;
    near = pair.near;
    is_choice = pair.is_choice;
    near_is_choice = pair.near_is_choice;
    are_near = pair.are_near;
    sides = inl (IsPairCase-each each p.op p.left p.right pair.sides);
    large = IsForLarge-each written bound p.op p.left p.right pair.large;
  };
}
  where
    written : (x : Fraction) → AtEither (SolvingNumber (system_of m g)) pair.one pair.near x → AtEither (ClearingNumber m g) pair.one pair.near x
    written x (inl n) = inl (of_solving x n)
    written x (inr n) = inr (of_solving x n)

    each : (kind : Kind) (x : Fraction) → OfEither (SystemNumber (system_of m g)) pair.one pair.near kind x → OfEither (MarketNumber m g) pair.one pair.near kind x
    each kind x (inl n) = inl (of_system kind x n)
    each kind x (inr n) = inr (of_system kind x n)

-- the unit of an offer is among those that offer reserve
among_offers : (os : List ReserveOffer) (n : ℕ) (o : ReserveOffer) → n < length os → offers_among os (slice_index_or os n o).unit ≡ true
among_offers [] n o lt = absurd (Prim.omega (arith, lt))
among_offers (q ∷ qs) zero o lt = elim (eqb_tells q.unit q.unit) [ inl t ↦ ap (λ (b : Bool). b || offers_among qs q.unit) t.0 | inr t ↦ absurd (t.1 refl) ]
among_offers (q ∷ qs) (suc n) o lt = behind (q.unit == (slice_index_or qs n o).unit) (among_offers qs n o (Prim.omega (arith, lt)))
  where
    behind : (b : Bool) → offers_among qs (slice_index_or qs n o).unit ≡ true → (b || offers_among qs (slice_index_or qs n o).unit) ≡ true
    behind true e = refl
    behind false e = e

offer_unit-among : (m : Parts) → IsMarket m → (n : ℕ) → n < length m.reserve.offers → Contains (reserve_units m) (offer_at m n).unit
offer_unit-among m market n lt =
    offers-listed m (offer_at m n).unit (offer_unit-in m market n lt) (among_offers m.reserve.offers n _ lt)

-- ---- one choice, over rows that are reached
module _ (m : Parts) (taken : List Row) (g : Taken) (reached : Growth m taken g.limits) (h : Choice) (is : IsChoice (system_of m g) h) (bound : ℕ) (p : Passed Fraction) where
  abbrev Number : Kind → Fraction → Type 0
  Number = MarketNumber m g h

  abbrev Either : Kind → Fraction → Type 0
  Either = OfEither (MarketNumber m g) h h

  either_opposite : (kind : Kind) (x : Fraction) → Either kind x → Either kind (neg_ℚ x)
  either_opposite kind x (inl n) = inl (of_opposite kind x n)
  either_opposite kind x (inr n) = inr (of_opposite kind x n)

  pub by_numbers : Passes bound p.op p.left p.right → IsPairCase Number p.op p.left p.right → IsForLarge (ClearingNumber m g h) bound p.op p.left p.right → IsRangeOf m taken bound p
  by_numbers passes c large = record {
    over = g;
    reached = reached;
    pair = record {
      passes = passes;
      one = h;
      near = h;
      is_choice = is;
      near_is_choice = is;
      are_near = inl refl;
      sides = inl (IsPairCase-each (λ kind x n. inl n) p.op p.left p.right c);
      large = IsForLarge-each (λ x n. inl n) bound p.op p.left p.right large;
    };
  }

  pub by_settled : (terms : List Term) → NamedSum m g h None terms → IsRefusedIn terms bound p → IsRangeOf m taken bound p
  by_settled terms named r = record {
    over = g;
    reached = reached;
    pair = record {
      passes = r.passes;
      one = h;
      near = h;
      is_choice = is;
      near_is_choice = is;
      are_near = inl refl;
      sides = inr (record { terms = terms; sum = named; place = r.place; step = r.step });
      large = IsForLarge-each (λ x n. inl n) bound p.op p.left p.right (sum_large (ClearingNumber m g h) is_turned terms (λ k. of_money terms k named) bound p r);
    };
  }

  opposite : (kind : Kind) (x : Fraction) → Number kind x → Number kind (neg_ℚ x)
  opposite kind x n = of_opposite kind x n

  -- ---- two numbers of a kind that are added or subtracted
  summand : (kind : Kind) (x y : Fraction) → x ≡ y → Number kind y → IsSummand Number kind x
  summand kind x y e n = subst (IsSummand Number kind) (sym e) (plain y (alone y n))

  by_less : (kind : Kind) (x y : Fraction) → Number kind x → Number kind y → ClearingNumber m g h (x -ℚ y) → IsRefusal Minus x y bound p → IsRangeOf m taken bound p
  by_less kind x y n k left r = by_numbers r.passes
      (subst (λ (o : Op). IsPairCase Number o p.left p.right) (sym r.same_op) (subtracted kind p.left p.right (summand kind p.left x r.same_left n) (summand kind p.right y r.same_right k)))
      (less_large (ClearingNumber m g h) bound x y p.op p.left p.right r.same_op r.same_left r.same_right left r.too_large)

  -- ---- the products among the terms of a sum
  abbrev IsScaled : Kind → Term → Type 0
  IsScaled kind (Plain x) = Unit {0}
  IsScaled kind (Product a b) = IsScaling Number kind a b

  abbrev AreScaled : Kind → List Term → Type 0
  AreScaled kind [] = Unit {0}
  AreScaled kind (t ∷ ts) = IsScaled kind t × AreScaled kind ts

  scaled_at : (kind : Kind) (terms : List Term) → AreScaled kind terms → (k : ℕ) (a b : Fraction) → k < length terms → term_at terms k ≡ Product a b → IsScaling Number kind a b
  scaled_at kind [] all k a b lt e = absurd (Prim.omega (arith, lt))
  scaled_at kind (t ∷ ts) all zero a b lt e = subst (IsScaled kind) e all.0
  scaled_at kind (t ∷ ts) all (suc k) a b lt e = scaled_at kind ts all.1 k a b (Prim.omega (arith, lt)) e

  scaled_append : (kind : Kind) (ts us : List Term) → AreScaled kind ts → AreScaled kind us → AreScaled kind (ts ++ us)
  scaled_append kind [] us all more = more
  scaled_append kind (t ∷ ts) us all more = (all.0, scaled_append kind ts us all.1 more)

  scaled_map : {X : Type 0} (kind : Kind) (t : X → Term) (xs : List X) → ((x : X) → Contains xs x → IsScaled kind (t x)) → AreScaled kind (map t xs)
  scaled_map kind t [] each = tt
  scaled_map kind t (x ∷ xs) each = (each x (Contains-head x xs), scaled_map kind t xs (λ y c. each y (Contains-cons x xs y c)))

  scaled_flat : {X : Type 0} (kind : Kind) (t : X → List Term) (xs : List X) → ((x : X) → Contains xs x → AreScaled kind (t x)) → AreScaled kind (flat_map t xs)
  scaled_flat kind t [] each = tt
  scaled_flat kind t (x ∷ xs) each = scaled_append kind (t x) (flat_map t xs) (each x (Contains-head x xs)) (scaled_flat kind t xs (λ y c. each y (Contains-cons x xs y c)))

  by_steps : (kind : Kind) (terms : List Term) → NamedSum m g h (Some kind) terms → AreScaled kind terms → IsRefusedIn terms bound p → IsRangeOf m taken bound p
  by_steps kind terms named scaled r =
      by_numbers r.passes (step_case Number opposite kind terms (λ k. of_sum kind terms k named) (scaled_at kind terms scaled) (sized Number opposite Factor) p.op p.left p.right r.place r.step)
      (sum_large (ClearingNumber m g h) is_turned terms (λ k. of_kind kind (prefix k terms) (of_sum kind terms k named)) bound p r)

  whole_sum : (kind : Kind) (terms : List Term) → NamedSum m g h (Some kind) terms → Number kind (total terms)
  whole_sum kind terms named = subst (Number kind) (prefix-all terms) (of_sum kind terms (length terms) named)

  below : (n i : ℕ) → Contains (places n) i → i < n
  below n i (k, lt, e) =
      let long : length (places n) ≡ n = length-range_with_len 0 n in
      let inside : k < n = Prim.omega (arith, lt, long) in
      let here : get_or (places n) k i ≡ k = get_or-range_with_len 0 n k i inside ∙ Prim.omega arith in
      subst (λ (j : ℕ). j < n) (sym here ∙ e) inside

  -- an amount of lines, under a cause
  under_scaled : (kind : Kind) (f : ℕ → Fraction) → ((k : ℕ) → k < length m.lines → Number kind (f k)) → (l : ℕ) (cause : Cause) → l < length m.lines → IsCauseOf m cause → AreScaled kind (terms_under m f l cause)
  under_scaled kind f amounts l Base lt lost = (tt, tt)
  under_scaled kind f amounts l (Branch k) lt lost = (tt, (inl (is_loss l k lt lost, alone (f k) (amounts k lost)), tt))
  under_scaled kind f amounts l (UnitOutage k) lt lost = (tt, tt)

  -- what takers pick up, and what a lost unit put in
  pickups_scaled : IsMarket m → (l k : ℕ) → l < length m.lines → AreScaled Factor (pickup_terms m l k)
  pickups_scaled market l k lt =
      scaled_append Factor (taker_terms m l k) (Plain (neg_ℚ (shift_factor m l (unit_at m (lost_unit m k)).bus)) ∷ [])
      (scaled_map Factor (λ p. Product (share_value p) (shift_factor m l (unit_at m p.taker).bus)) (pickups_of m k) each)
      (tt, tt)
    where
      each : (p : Pickup) → Contains (pickups_of m k) p → IsScaled Factor (Product (share_value p) (shift_factor m l (unit_at m p.taker).bus))
      each p c =
          let listed : Contains m.pickups p = (Contains-from_filter (λ q. q.outage == k) m.pickups p c).0 in
          let is_pickup = All-contains (IsPickup (length m.unit_outages) (length m.units)) m.pickups p market.unit_outages.pickups listed in
          inl (is_share p listed, alone (shift_factor m l (unit_at m p.taker).bus) (is_shift l (unit_at m p.taker).bus lt (unit_bus-in m market p.taker is_pickup.taker)))

  pickup_scaled : IsMarket m → (r : Row) → Contains (rows m) r → (terms : List Term) → PickupSum m r terms → AreScaled Factor terms
  pickup_scaled market r c _ (pickup_of_row k e) = pickups_scaled market r.line k (at_places m market r c).0

  -- the pickup factor of a row
  pickup_number : (r : Row) → Contains (rows m) r → (k : ℕ) → r.cause ≡ UnitOutage k → Number Factor (pickup_factor m r.line k)
  unfolding pickup_factor
  pickup_number r c k e = whole_sum Factor (pickup_terms m r.line k) (factor_of r _ c (factor_of_pickup _ (pickup_of_row k e)))

  row_pickup_number : (r : Row) → Contains (rows m) r → Number Factor (row_pickup m r.line r.cause)
  row_pickup_number r c = by r.cause refl
    where
      by : (cause : Cause) → r.cause ≡ cause → Number Factor (row_pickup m r.line cause)
      by Base e = of_system Factor (whole (pos 0)) is_zero
      by (Branch k) e = of_system Factor (whole (pos 0)) is_zero
      by (UnitOutage k) e = pickup_number r c k e

  -- ---- where nothing is accepted, or at a best dispatch
  module _ (market : IsMarket m) (x : Dispatch) (injecting : IsInjecting m g h x) where
    injected : (i : ℕ) → i < length m.buses → Number Quantity (injection m x i)
    unfolding injection
    injected i lt = whole_sum Quantity (injection_terms m x i) (of_flow x (injection_terms m x i) injecting (flow_in_balance _ (balance_from_bus _ (injection_at i lt))))

    lined : (l : ℕ) → l < length m.lines → Number Quantity (line_flow m (injection m x) l)
    unfolding line_flow
    lined l lt = whole_sum Quantity (line_terms m (injection m x) l) (of_flow x (line_terms m (injection m x) l) injecting (flow_in_limits _ (limited_by_carried _ (carried_on_line _ (flow_of_line l lt)))))

    pub row_flow_number : (r : Row) → Contains (rows m) r → Number Quantity (flow m x r)
    row_flow_number r c = whole_sum Quantity (flow_terms m (carried m x) r) (of_flow x (flow_terms m (carried m x) r) injecting (flow_in_limits _ (limited_row r _ c flow_of_row)))

    lost_number : (k : ℕ) → k < length m.unit_outages → Number Quantity (lost_output m x k)
    unfolding output
    lost_number k lt = whole_sum Quantity (output_terms m x (lost_unit m k)) (of_flow x (output_terms m x (lost_unit m k)) injecting (flow_in_limits _ (limited_by_carried _ (carried_by_unit _ (output_of_lost k lt)))))

    -- what is picked up of the output that a row's cause loses
    picked_up_scaled : (r : Row) → Contains (rows m) r → AreScaled Quantity (picked_up_terms m (lost_output m x) r.line r.cause)
    picked_up_scaled r c = by r.cause refl (at_places m market r c).1
      where
        by : (cause : Cause) → r.cause ≡ cause → IsCauseOf m cause → AreScaled Quantity (picked_up_terms m (lost_output m x) r.line cause)
        by Base e is = tt
        by (Branch k) e is = tt
        by (UnitOutage k) e is = (inl (pickup_number r c k e, alone (lost_output m x k) (lost_number k is)), tt)

    balanced : Number Quantity (balance m x)
    unfolding balance
    balanced = whole_sum Quantity (balance_terms m x) (of_flow x (balance_terms m x) injecting (flow_in_balance _ balance_of_all))

    flows_scaled : (terms : List Term) → FlowSum m x terms → AreScaled Quantity terms
    flows_scaled terms (flow_in_balance same (balance_from_bus also (injection_at i lt))) =
        scaled_append Quantity (map (fixed_term m) (units_at m i) ++ map (block_term m x) (blocks_at m i)) (Plain (neg_ℚ (whole (bus_at m i).pd)) ∷ Plain (neg_ℚ (whole (bus_at m i).gs)) ∷ [])
        (scaled_append Quantity (map (fixed_term m) (units_at m i)) (map (block_term m x) (blocks_at m i))
        (scaled_map Quantity (fixed_term m) (units_at m i) (λ u c. tt))
        (scaled_map Quantity (block_term m x) (blocks_at m i) (λ j c. tt)))
        (tt, (tt, tt))
    flows_scaled terms (flow_in_limits same (limited_by_carried also (carried_on_line too (flow_of_line l lt)))) = (
      tt,
      scaled_map Quantity (λ i. Product (shift_factor m l i) (injection m x i)) (places (length m.buses))
          (λ i c. let inside = below (length m.buses) i c in inl (is_shift l i lt inside, alone (injection m x i) (injected i inside))),
    )
    flows_scaled terms (flow_in_balance same balance_of_all) = scaled_map Quantity (λ i. Plain (injection m x i)) (places (length m.buses)) (λ i c. tt)
    flows_scaled terms (flow_in_limits same (limited_by_carried also (carried_by_unit too (output_of_lost k lt)))) = (tt, scaled_map Quantity (block_term m x) (blocks_of m (lost_unit m k)) (λ j c. tt))
    flows_scaled terms (flow_in_limits same (limited_row r also c flow_of_row)) =
        let s = at_places m market r c in
        scaled_append Quantity (terms_under m (line_flow m (injection m x)) r.line r.cause) (picked_up_terms m (lost_output m x) r.line r.cause)
        (under_scaled Quantity (line_flow m (injection m x)) lined r.line r.cause s.0 s.1)
        (picked_up_scaled r c)

  -- ---- reserve
  reserves_scaled : (x : Dispatch) (terms : List Term) → ReserveSum m x terms → AreScaled Quantity terms
  reserves_scaled x terms (reserve_accepted same reserve_of_all) = scaled_map Quantity (reserved_term x) (offer_places m) (λ n c. tt)
  reserves_scaled x terms (reserve_in_room same (used_of_room u k)) =
      scaled_append Quantity (map (block_term m x) (blocks_of m u)) (map (reserved_term x) (offers_of m u))
      (scaled_map Quantity (block_term m x) (blocks_of m u) (λ j c. tt))
      (scaled_map Quantity (reserved_term x) (offers_of m u) (λ n c. tt))

  worths_scaled : (kind : Kind) (d : Duals Fraction) (terms : List Term) → WorthSum m d terms → AreScaled kind terms
  worths_scaled kind d terms (energy_of_unit u c) = (tt, (tt, tt))
  worths_scaled kind d terms (reserve_of_unit u c) = (tt, (tt, tt))

  -- ---- prices
  module _ (kind : Kind) (d : Duals Fraction) (ups : (r : Row) → Contains (rows m) r → Number kind (up_of m d r)) (downs : (r : Row) → Contains (rows m) r → Number kind (down_of m d r)) where
    opposite_net : (r : Row) → Contains (rows m) r → IsCombined Number kind (neg_ℚ (net_shadow_price m d r))
    opposite_net r c = combined_opposite Number opposite kind (net_shadow_price m d r) (difference (up_of m d r) (down_of m d r) (ups r c) (downs r c))

    bus_prices_scaled : (i : ℕ) → i < length m.buses → (terms : List Term) → BusPriceSum m d i terms → AreScaled kind terms
    unfolding row_factor
    bus_prices_scaled i lt terms congestion_at = scaled_map kind (λ r. Product (neg_ℚ (net_shadow_price m d r)) (row_factor m r i)) (rows m)
        (λ r c. inr (opposite_net r c, whole_sum Factor (factor_terms m r i) (factor_of r _ c (factor_of_bus _ (factor_at_bus i lt)))))
    bus_prices_scaled i lt terms price_at = (tt, (tt, tt))

    prices_scaled : (terms : List Term) → PriceSum m d terms → AreScaled kind terms
    prices_scaled terms (price_of_bus i same lt part) = bus_prices_scaled i lt terms part
    prices_scaled terms (price_of_unit same (own_price_of_unit u lt)) = (
      tt,
      scaled_map kind (λ r. Product (neg_ℚ (net_shadow_price m d r)) (row_pickup m r.line r.cause)) (filter (λ r. loses_unit m u r.cause) (rows m))
          (λ r k. let c = (Contains-from_filter (λ s. loses_unit m u s.cause) (rows m) r k).0 in inr (opposite_net r c, row_pickup_number r c)),
    )

  -- ---- the bound of duals that show that nothing is feasible
  module _ (market : IsMarket m) (d : Duals Fraction) (f : IsFarkasOf m g h d) where
    abbrev idle : IsInjecting m g h (empty m)
    idle = inl refl

    left_scaled : (r : Row) → Contains (rows m) r → AreScaled Quantity (limit_terms m d r)
    left_scaled r c = (
      inl (is_farkas_up d r f c, difference (most_flow m r) (flow m (empty m) r) (is_most_flow r c) (row_flow_number market (empty m) idle r c)),
      (inl (is_farkas_down d r f c, sum (most_flow m r) (flow m (empty m) r) (is_most_flow r c) (row_flow_number market (empty m) idle r c)), tt),
    )

    price_number : (u : ℕ) → u < length m.units → Number Factor (unit_price m d u)
    unfolding unit_price
    price_number u lt = whole_sum Factor (own_terms m d (bus_price m d) u) (of_farkas_price d (own_terms m d (bus_price m d) u) f (price_of_unit _ (own_price_of_unit u lt)))

    signed_number : (side : Side) (x : Fraction) → Number Factor x → Number Factor (signed_by_side side x)
    signed_number Sell x n = n
    signed_number Buy x n = of_opposite Factor x n

    above_number : (s : Sign) (x : Fraction) → Number Factor x → Number Factor (where_above s x)
    above_number Below x n = of_system Factor (whole (pos 0)) is_zero
    above_number Zero x n = of_system Factor (whole (pos 0)) is_zero
    above_number Above x n = n

    -- the worth of energy of a unit: a sum where it offers reserve, and else its price
    worth_number : (u : ℕ) → u < length m.units → Number Factor (energy_worth m d u)
    worth_number u lt = by (offers_reserve m u) refl
      where
        by : (b : Bool) → offers_reserve m u ≡ b → Number Factor (energy_worth m d u)
        by true e =
            subst (Number Factor) (by_ring ring_ℚ (unit_price m d u ∷ room_price m d u ∷ []) (at 0 ⊕ (pneg (at 1) ⊕ pnil)) (at 0 ⊕ pneg (at 1)) refl)
            (whole_sum Factor (worth_terms m d u) (of_farkas_worth d (worth_terms m d u) f (energy_of_unit u (offers-listed m u lt e))))
        by false e =
            let none : room_price m d u ≡ nil = ap (λ (b : Bool). if b then room_price_in d.rooms (unit_at m u).row else nil) e in
            subst (Number Factor) (by_ring1 ring_ℚ (unit_price m d u ∷ room_price m d u ∷ []) (at 0) (at 0 ⊕ pneg (at 1)) pone (at 1) pnil none refl) (price_number u lt)

    -- that of the reserve of a unit that offers some
    reserve_number : (u : ℕ) → Contains (reserve_units m) u → Number Factor (reserve_worth m d u)
    reserve_number u c =
        subst (Number Factor) (by_ring ring_ℚ (d.reserve ∷ room_price m d u ∷ []) (at 0 ⊕ (pneg (at 1) ⊕ pnil)) (at 0 ⊕ pneg (at 1)) refl)
        (whole_sum Factor (reserve_worth_terms m d u) (of_farkas_worth d (reserve_worth_terms m d u) f (reserve_of_unit u c)))

    -- what no reserve leaves of the need and of rooms
    need_scaled : (b : Bool) → AreScaled Quantity (if b then Product d.reserve (neg_ℚ (reserve_need m)) ∷ [] else [])
    need_scaled true = (inl (is_farkas_reserve d f, alone (neg_ℚ (reserve_need m)) (of_opposite Quantity (reserve_need m) is_need)), tt)
    need_scaled false = tt

    room_scaled : (u : ℕ) → Contains (reserve_units m) u → IsScaled Quantity (Product (room_price m d u) (room m u))
    room_scaled u c = inl (is_farkas_room d u f c, alone (room m u) (is_up u (listed-inside m u c)))

    nothing_scaled : AreScaled Quantity (nothing_terms m d)
    nothing_scaled = (
      inl (is_farkas_energy d f, alone (balance m (empty m)) (balanced market (empty m) idle)),
      scaled_append Quantity (flat_map (limit_terms m d) (rows m)) (reserve_left_terms m d)
          (scaled_flat Quantity (limit_terms m d) (rows m) left_scaled)
          (scaled_append Quantity (if m.reserve.listed then Product d.reserve (neg_ℚ (reserve_need m)) ∷ [] else []) (map (λ u. Product (room_price m d u) (room m u)) (reserve_units m))
          (need_scaled m.reserve.listed)
          (scaled_map Quantity (λ u. Product (room_price m d u) (room m u)) (reserve_units m) room_scaled)),
    )

    ordered : AreInOrder m (taken_in_order m g)
    ordered = taken-in_order m (rows_apart m (names_apart m market)) g

    -- the most of a variable is a bound of the system
    most_number : (v : Variable) → IsVariableOf m (taken_in_order m g) v → Number Quantity (high m v)
    most_number v is =
        subst (Number Quantity) (high-at m (taken_in_order m g) ordered v is) (of_system Quantity ((system_of m g).high (name m v)) (is_high (name m v) (variable_in m (taken_in_order m g) v is)))

    block_scaled : (j : ℕ) → j < length m.blocks → IsScaled Quantity (block_most m d j)
    block_scaled j lt = inl (
      above_number (sign_of (block_weight m d j)) (block_weight m d j)
          (signed_number (block_at m j).side (energy_worth m d (block_at m j).unit) (worth_number (block_at m j).unit (block_unit-in m market j lt))),
      alone (quantity m j) (most_number (Block j) lt),
    )

    offer_scaled : (n : ℕ) → n < length m.reserve.offers → IsScaled Quantity (offer_most m d n)
    offer_scaled n lt = inl (
      above_number (sign_of (offer_weight m d n)) (offer_weight m d n) (reserve_number (offer_at m n).unit (offer_unit-among m market n lt)),
      alone (reserve_quantity m n) (most_number (Offer n) lt),
    )

    bound_scaled : AreScaled Quantity (farkas_terms m d)
    bound_scaled =
        scaled_append Quantity (nothing_terms m d ++ map (block_most m d) (places (length m.blocks))) (map (offer_most m d) (offer_places m))
        (scaled_append Quantity (nothing_terms m d) (map (block_most m d) (places (length m.blocks))) nothing_scaled
        (scaled_map Quantity (block_most m d) (places (length m.blocks)) (λ j c. block_scaled j (Contains-from_places (length m.blocks) j c))))
        (scaled_map Quantity (offer_most m d) (offer_places m) (λ n c. offer_scaled n (Contains-from_places (length m.reserve.offers) n c)))

  -- ---- every named sum
  by_sum : IsMarket m → (kind : Option Kind) (terms : List Term) → NamedSum m g h kind terms → IsRefusedIn terms bound p → IsRangeOf m taken bound p
  by_sum market _ terms (offset_of r same c offset_of_row) = let s = at_places m market r c in by_steps Quantity terms (offset_of r terms c offset_of_row) (under_scaled Quantity (line_offset m) (λ l inside. is_line_offset l inside) r.line r.cause s.0 s.1)
  by_sum market _ terms (factor_of r same c (factor_of_bus also (factor_at_bus i lt))) = let s = at_places m market r c in by_steps Factor terms (factor_of r terms c (factor_of_bus terms (factor_at_bus i lt))) (under_scaled Factor (λ k. shift_factor m k i) (λ k inside. is_shift k i inside lt) r.line r.cause s.0 s.1)
  by_sum market _ terms (factor_of r same c (factor_of_pickup also part)) = by_steps Factor terms (factor_of r terms c (factor_of_pickup terms part)) (pickup_scaled market r c terms part)
  by_sum market _ terms (of_flow x same injecting flow) = by_steps Quantity terms (of_flow x terms injecting flow) (flows_scaled market x injecting terms flow)
  by_sum market _ terms (of_reserve x same injecting part) = by_steps Quantity terms (of_reserve x terms injecting part) (reserves_scaled x terms part)
  by_sum market _ terms (output_of same best (output_of_unit u lt)) =
      by_steps Quantity terms (output_of terms best (output_of_unit u lt)) (tt, scaled_map Quantity (block_term m (choice_dispatch m g h)) (blocks_of m u) (λ j c. tt))
  by_sum market _ terms (of_price same best price) = by_steps Price terms (of_price terms best price) (prices_scaled Price (choice_duals m g h) is_up_dual is_down_dual terms price)
  by_sum market _ terms (of_worth same best worth) = by_steps Price terms (of_worth terms best worth) (worths_scaled Price (choice_duals m g h) terms worth)
  by_sum market _ terms (of_welfare same best part) = by_settled terms (of_welfare terms best part)
  by_sum market _ terms (of_settlement same best part) = by_settled terms (of_settlement terms best part)
  by_sum market _ terms (of_farkas_price d same f price) =
      by_steps Factor terms (of_farkas_price d terms f price) (prices_scaled Factor d (λ r c. is_farkas_up d r f c) (λ r c. is_farkas_down d r f c) terms price)
  by_sum market _ terms (of_farkas_worth d same f worth) = by_steps Factor terms (of_farkas_worth d terms f worth) (worths_scaled Factor d terms worth)
  by_sum market _ terms (farkas_bound_of d same f farkas_bound_of_all) = by_steps Quantity terms (farkas_bound_of d terms f farkas_bound_of_all) (bound_scaled market d f)

pub law_of_the_pairs : LawOfThePairs
law_of_the_pairs m taken g h bound p market reached is = record {
  system = of_system_pair m taken g reached bound p;
  sum = by_sum m taken g reached h is bound p market;
  less = by_less m taken g reached h is bound p;
}
