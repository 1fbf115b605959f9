-- What is refused for the most that the flow of a row in hand may be, or for what its flow leaves of that, is a working pair of the market.
use Rattle.std.specs.Prelude.{◌≡◌, ℕ, Bool, true, false, List, [], ◌∷◌, Contains, refl}
use Rattle.std.proofs.Common.{ap, sym, ◌∙◌, subst, subst₂, inl}
use Rattle.fraction_theory.specs.Fraction.{Fraction, neg_ℚ, ◌+ℚ◌, ◌-ℚ◌}
use Rattle.fraction_theory.proofs.FieldLaws.{ring_ℚ}
use Rattle.fraction_theory.proofs.Ring.{by_ring, at, pneg, pnil, ◌⊕◌}
use Rattle.exact_fraction.specs.declared.Op.{Op}
use Rattle.exact_fraction.specs.declared.Op.TheVariants.{Minus, Plus}
use Rattle.exact_fraction.specs.declared.Passed.{Passed}
use Rattle.exact_fraction.specs.Passes.{Passes}
use Rattle.linear_system.specs.Choices.{Choice, IsChoice}
use Rattle.linear_system.specs.Numbers.{Quantity, is_high, is_low}
use Rattle.linear_system.specs.Pairs.{added, alone, itself, plain}
use Rattle.market_model.specs.declared.limits.Row.{Row}
use Rattle.market_model.specs.declared.participants.Parts.{Parts}
use Rattle.market_model.specs.Dispatch.{balance_terms, empty}
use Rattle.market_model.specs.LimitRows.{flow, is_soft, limit, most_excess, most_flow, rows}
use Rattle.market_model.specs.Market.{IsMarket}
use Rattle.market_model.specs.NamedSums.{IsRefusal}
use Rattle.market_model.specs.Optimality.{Taken}
use Rattle.market_model.specs.SumTables.{balance_of_all, flow_in_balance}
use Rattle.limit_rows.specs.Refusals.{IsMostFlowRefusal}
use Rattle.limit_rows.proofs.ApartLemmas.{names_apart}
use Rattle.market_system.specs.declared.variables.Variable.TheVariants.{Limit, Over}
use Rattle.market_system.specs.Growth.{Growth}
use Rattle.market_system.specs.MarketNumbers.{ClearingNumber, MarketNumber, is_limit, is_most_flow, of_flow, of_kind, of_opposite, of_sum, of_system}
use Rattle.market_system.specs.MarketSystem.{in_order, over_name, row_name, system_of, taken_in_order}
use Rattle.market_system.specs.PairLaw.{RefusalsArePairs}
use Rattle.market_system.specs.WorkingPairs.{IsRangeOf, IsWorkingPair}
use Rattle.market_system.proofs.DualLists.{rows_apart}
use Rattle.market_system.proofs.PairCases.{law_of_the_pairs, row_flow_number}
use Rattle.market_system.proofs.RowOrder.{AreInOrder, in_order-in}
use Rattle.market_system.proofs.SoftRows.{hard_stands}
use Rattle.market_system.proofs.VariableLaws as law
use Rattle.clear_loop.specs.Bounding.{IsMostRefusal, of_lower, of_most, of_upper}
use Rattle.clear_loop.proofs.MostChoices.{lower_choice, lower_is_choice, lower_number, upper_choice, upper_is_choice, upper_number}

module _ (m : Parts) (old : List Row) (g : Taken) (h : Choice) (bound : ℕ) (p : Passed Fraction) (market : IsMarket m) (grown : Growth m old g.limits) (choice : IsChoice (system_of m g) h) (r : Row) (c : Contains (rows m) r)
    (taken : Contains g.limits r) where
  listed : Contains (in_order m g.limits) r
  listed = in_order-in m g.limits r c taken

  ordered : AreInOrder m (taken_in_order m g)
  ordered = law.taken-in_order m (rows_apart m (names_apart m market)) g

  named : Contains (system_of m g).variables (row_name m r)
  named = law.variable_in m (taken_in_order m g) (Limit r) listed

  -- at a choice where the difference is a number to be written down
  module _ (k : Choice) (is : IsChoice (system_of m g) k) where
    pairs : RefusalsArePairs m old g k bound p
    pairs = law_of_the_pairs m old g k bound p market grown is

    flow_number : MarketNumber m g k Quantity (flow m (empty m) r)
    flow_number = row_flow_number m old g grown k is bound p market (empty m) (inl refl) r c

    upper_at : ClearingNumber m g k (most_flow m r -ℚ flow m (empty m) r) → IsRefusal Minus (most_flow m r) (flow m (empty m) r) bound p → IsRangeOf m old bound p
    upper_at number a = pairs.less Quantity (most_flow m r) (flow m (empty m) r) (is_most_flow r c) flow_number number a

    lower_at : ClearingNumber m g k (most_flow m r -ℚ neg_ℚ (flow m (empty m) r)) → IsRefusal Minus (most_flow m r) (neg_ℚ (flow m (empty m) r)) bound p → IsRangeOf m old bound p
    lower_at number a = pairs.less Quantity (most_flow m r) (neg_ℚ (flow m (empty m) r)) (is_most_flow r c) (of_opposite Quantity (flow m (empty m) r) flow_number) number a

  -- where the limit does not give way it is a bound of the row
  module _ (hard : is_soft m r ≡ false) where
    limit_alone : limit m r ≡ most_flow m r
    limit_alone = by_ring ring_ℚ (limit m r ∷ []) (at 0) (at 0 ⊕ pnil) refl ∙ ap (λ x. limit m r +ℚ x) (sym (hard_stands m market r hard))

    hard_upper : ClearingNumber m g h (most_flow m r -ℚ flow m (empty m) r)
    hard_upper =
        subst (ClearingNumber m g h) (law.high-at m (taken_in_order m g) ordered (Limit r) listed ∙ ap (λ x. x -ℚ flow m (empty m) r) limit_alone)
        (of_kind Quantity ((system_of m g).high (row_name m r)) (of_system Quantity ((system_of m g).high (row_name m r)) (is_high (row_name m r) named)))

    turned : neg_ℚ (neg_ℚ (limit m r) -ℚ flow m (empty m) r) ≡ most_flow m r -ℚ neg_ℚ (flow m (empty m) r)
    turned =
        by_ring ring_ℚ (limit m r ∷ flow m (empty m) r ∷ []) (pneg (pneg (at 0) ⊕ pneg (at 1))) (at 0 ⊕ pneg (pneg (at 1))) refl
        ∙ ap (λ x. x -ℚ neg_ℚ (flow m (empty m) r)) limit_alone

    hard_lower : ClearingNumber m g h (most_flow m r -ℚ neg_ℚ (flow m (empty m) r))
    hard_lower =
        let low = (system_of m g).low (row_name m r) in
        subst (ClearingNumber m g h) (ap neg_ℚ (law.low-at m (taken_in_order m g) ordered (Limit r) listed) ∙ turned)
        (of_kind Quantity (neg_ℚ low) (of_opposite Quantity low (of_system Quantity low (is_low (row_name m r) named))))

  -- where it does, it is the value of a column of the row
  module _ (soft : is_soft m r ≡ true) where
    soft_upper : IsRefusal Minus (most_flow m r) (flow m (empty m) r) bound p → IsRangeOf m old bound p
    soft_upper a =
        let t = taken_in_order m g in
        upper_at (upper_choice m t ordered r listed soft) (upper_is_choice m t ordered r listed soft)
        (of_kind Quantity (most_flow m r -ℚ flow m (empty m) r) (of_system Quantity (most_flow m r -ℚ flow m (empty m) r) (upper_number m t ordered r listed soft))) a

    soft_lower : IsRefusal Minus (most_flow m r) (neg_ℚ (flow m (empty m) r)) bound p → IsRangeOf m old bound p
    soft_lower a =
        let t = taken_in_order m g in
        lower_at (lower_choice m t ordered r listed soft) (lower_is_choice m t ordered r listed soft)
        (of_kind Quantity (most_flow m r -ℚ neg_ℚ (flow m (empty m) r)) (of_system Quantity (most_flow m r -ℚ neg_ℚ (flow m (empty m) r)) (lower_number m t ordered r listed soft))) a

  -- the limit and its most excess
  excess_number : (b : Bool) → is_soft m r ≡ b → MarketNumber m g h Quantity (most_excess m r)
  excess_number true soft =
      subst (MarketNumber m g h Quantity) (law.high-at m (taken_in_order m g) ordered (Over r) (listed, soft))
      (of_system Quantity ((system_of m g).high (over_name m r)) (is_high (over_name m r) (law.variable_in m (taken_in_order m g) (Over r) (listed, soft))))
  excess_number false hard =
      subst (MarketNumber m g h Quantity) (sym (hard_stands m market r hard)) (of_sum Quantity (balance_terms m (empty m)) 0 (of_flow (empty m) (balance_terms m (empty m)) (inl refl) (flow_in_balance _ balance_of_all)))

  most_range : IsMostFlowRefusal m r bound p → IsRangeOf m old bound p
  most_range a = record { over = g; reached = grown; pair = subst (λ (o : Op). IsWorkingPair m g bound o p.left p.right) (sym a.same_op) there }
    where
      pair : IsWorkingPair m g bound Plus (limit m r) (most_excess m r)
      pair = record {
        passes = subst (λ (o : Op). Passes bound o (limit m r) (most_excess m r)) a.same_op (subst₂ (λ x y. Passes bound p.op x y) a.same_left a.same_right a.passes);
        one = h;
        near = h;
        is_choice = choice;
        near_is_choice = choice;
        are_near = inl refl;
        sides = inl
            (added Quantity (limit m r) (most_excess m r) (plain (limit m r) (alone (limit m r) (inl (is_limit r c))))
            (plain (most_excess m r) (alone (most_excess m r) (inl (excess_number (is_soft m r) refl)))));
        large = record {
          number = most_flow m r;
          is_number = inl (of_kind Quantity (most_flow m r) (is_most_flow r c));
          too_large = a.too_large;
          made = itself Plus (limit m r) (most_excess m r);
        };
      }

      there : IsWorkingPair m g bound Plus p.left p.right
      there = subst₂ (λ x y. IsWorkingPair m g bound Plus x y) (sym a.same_left) (sym a.same_right) pair

  pub most_refusal_range : IsMostRefusal m r bound p → IsRangeOf m old bound p
  most_refusal_range (of_most a) = most_range a
  most_refusal_range (of_upper a) = by (is_soft m r) refl
    where
      by : (b : Bool) → is_soft m r ≡ b → IsRangeOf m old bound p
      by true soft = soft_upper soft a
      by false hard = upper_at h choice (hard_upper hard) a
  most_refusal_range (of_lower a) = by (is_soft m r) refl
    where
      by : (b : Bool) → is_soft m r ≡ b → IsRangeOf m old bound p
      by true soft = soft_lower soft a
      by false hard = lower_at h choice (hard_lower hard) a
