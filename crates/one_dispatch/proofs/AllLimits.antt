-- The dispatch that goes first for some limits and rooms goes first for all, where it keeps the others.
use Rattle.std.specs.Prelude.{◌≡◌, Bool, true, false, [], ◌∷◌, length, Contains, refl}
use Rattle.std.proofs.Common.{ap, sym, ◌∙◌, subst, subst₂}
use Rattle.fraction_theory.specs.Fraction.{Fraction, neg_ℚ, ◌+ℚ◌, ◌*ℚ◌}
use Rattle.fraction_theory.specs.Order.{◌≤ℚ◌}
use Rattle.fraction_theory.specs.Signs.{abs_ℚ}
use Rattle.fraction_theory.specs.Sums.{sum_by}
use Rattle.fraction_theory.proofs.Ring.{by_ring, at, pnil, pone, pneg, ◌⊕◌, ◌⊗◌}
use Rattle.fraction_theory.proofs.FieldLaws.{ring_ℚ}
use Rattle.fraction_theory.proofs.ListSums.{kept, sum_by-filter, sum_by-members}
use Rattle.fraction_theory.proofs.OrderLaws.{by_le1, +ℚ-≤ℚ, ≤ℚ_refl, ≤ℚ_trans, NonNeg-one, NonNeg_from}
use Rattle.fraction_theory.proofs.SignLaws.{abs_within, part_at_most, part_least}
use Rattle.fraction_theory.proofs.SumLaws.{sum_by-≤}
use Rattle.market_model.specs.declared.limits.Row.{Row}
use Rattle.market_model.specs.declared.participants.Parts.{Parts}
use Rattle.market_model.specs.Dispatch.{Dispatch, zero as nil, places, accepted, reserved}
use Rattle.market_model.specs.LimitRows.{rows, flow, is_soft, limit, penalty}
use Rattle.market_model.specs.Market.{IsMarket}
use Rattle.market_model.specs.Optimality.{Taken, Feasible, FeasibleFor, BestFor, all_of, block_value, welfare, welfare_for}
use Rattle.market_model.specs.Overrun.{Within, excess, excess_by, overrun}
use Rattle.market_model.specs.Reserves.{offer_places, offer_price}
use Rattle.market_model.proofs.Excesses.{penalty_least}
use Rattle.market_model.proofs.RowLaws.{along}
use Rattle.market_system.specs.MarketSystem.{is_in, in_order}
use Rattle.market_system.specs.SolvedLaws.{AreRows, AreTaken}
use Rattle.market_system.proofs.MarketPoints.{welfare-in_order}
use Rattle.limit_rows.proofs.ApartLemmas.{names_apart}
use Rattle.market_system.proofs.DualLists.{rows_apart}
use Rattle.market_system.proofs.RowOrder.{RowsApart, is_in-in, in_order-filter}
use Rattle.market_system.proofs.SoftRows.{kept_nil}
use Rattle.one_dispatch.specs.Laws.{LawOfAllLimits}

-- ---- one row
-- a flow that keeps the limit exceeds it by nothing
excess_none : (m : Parts) (r : Row) (f : Fraction) → Within (limit m r) f → excess_by m r f ≡ nil
excess_none m r f w = part_at_most (overrun m r f) (by_le1 (abs_ℚ f ∷ limit m r ∷ []) (at 0 ⊕ pneg (at 1)) pnil pone (at 0) (at 1) NonNeg-one (abs_within f (limit m r) w.above w.below) refl)

kept_most : (b : Bool) (x : Fraction) → x ≤ℚ nil → kept b x ≤ℚ nil
kept_most true x h = h
kept_most false x h = ≤ℚ_refl nil

kept_least : (b : Bool) (x : Fraction) → x ≤ℚ nil → x ≤ℚ kept b x
kept_least true x h = ≤ℚ_refl x
kept_least false x h = h

-- what the excess of a row adds to the welfare
abbrev pub penalized : Parts → Dispatch → Row → Fraction
penalized m x r = kept (is_soft m r) (neg_ℚ (penalty m r) *ℚ excess m x r)

penalized-most : (m : Parts) → IsMarket m → (x : Dispatch) (r : Row) → penalized m x r ≤ℚ nil
penalized-most m market x r = kept_most (is_soft m r) (neg_ℚ (penalty m r) *ℚ excess m x r)
    (by_le1 (penalty m r ∷ excess m x r ∷ []) (pneg (at 0) ⊗ at 1) pnil (at 0) pnil (at 1) (NonNeg_from (penalty m r) (penalty_least m market r)) (part_least (overrun m r (flow m x r))).0 refl)

penalized-none : (m : Parts) (x : Dispatch) (r : Row) → Within (limit m r) (flow m x r) → penalized m x r ≡ nil
penalized-none m x r w = kept_nil (is_soft m r) (λ _. ap (λ e. neg_ℚ (penalty m r) *ℚ e) (excess_none m r (flow m x r) w) ∙ by_ring ring_ℚ (penalty m r ∷ []) (pneg (at 0) ⊗ pnil) pnil refl)

-- ---- some rows and all
module _ (m : Parts) (market : IsMarket m) where
  apart : RowsApart m
  apart = rows_apart m (names_apart m market)

  all_rows : AreRows m (rows m)
  all_rows = record { rows = λ r c. c; distinct = apart }

  -- what does not depend on limits
  abbrev value_of : Dispatch → Fraction
  value_of x = sum_by (λ j. block_value m j *ℚ accepted x j) (places (length m.blocks))

  abbrev cost_of : Dispatch → Fraction
  cost_of x = sum_by (λ n. neg_ℚ (offer_price m n) *ℚ reserved x n) (offer_places m)

  -- the welfare for some rows, as a sum over all
  welfare-over : (g : Taken) → AreRows m g.limits → (x : Dispatch) → welfare_for m g.limits x ≡ (value_of x +ℚ sum_by (λ r. kept (is_in g.limits r) (penalized m x r)) (rows m)) +ℚ cost_of x
  welfare-over g are x =
      welfare-in_order m apart g are x
      ∙ ap (λ s. (value_of x +ℚ s) +ℚ cost_of x)
      (sum_by-filter (λ r. neg_ℚ (penalty m r) *ℚ excess m x r) (is_soft m) (in_order m g.limits)
      ∙ ap (sum_by (penalized m x)) (in_order-filter m g.limits)
      ∙ sum_by-filter (penalized m x) (is_in g.limits) (rows m))

  -- that for all rows
  welfare-all : (x : Dispatch) → welfare m x ≡ (value_of x +ℚ sum_by (penalized m x) (rows m)) +ℚ cost_of x
  welfare-all x =
      welfare-over (all_of m) all_rows x
      ∙ ap (λ s. (value_of x +ℚ s) +ℚ cost_of x)
      (sum_by-members (λ r. kept (is_in (rows m) r) (penalized m x r)) (penalized m x) (rows m) (λ r c. ap (λ (b : Bool). kept b (penalized m x r)) (is_in-in (rows m) r c)))

  -- it is no more than that for some
  pub welfare-most : (g : Taken) → AreRows m g.limits → (x : Dispatch) → welfare m x ≤ℚ welfare_for m g.limits x
  welfare-most g are x = subst₂ ◌≤ℚ◌ (sym (welfare-all x)) (sym (welfare-over g are x))
      (+ℚ-≤ℚ (value_of x +ℚ all) (value_of x +ℚ some) (cost_of x) (cost_of x)
      (+ℚ-≤ℚ (value_of x) (value_of x) all some (≤ℚ_refl (value_of x))
      (sum_by-≤ (penalized m x) (λ r. kept (is_in g.limits r) (penalized m x r)) (rows m)
      (along (λ r. penalized m x r ≤ℚ kept (is_in g.limits r) (penalized m x r)) (rows m)
      (λ r c. kept_least (is_in g.limits r) (penalized m x r) (penalized-most m market x r)))))
      (≤ℚ_refl (cost_of x)))
    where
      all : Fraction
      all = sum_by (penalized m x) (rows m)

      some : Fraction
      some = sum_by (λ r. kept (is_in g.limits r) (penalized m x r)) (rows m)

  -- and the same where the limits of the others are kept
  pub welfare-same : (g : Taken) → AreRows m g.limits → (x : Dispatch) → ((r : Row) → Contains (rows m) r → ¬ (Contains g.limits r) → Within (limit m r) (flow m x r)) → welfare_for m g.limits x ≡ welfare m x
  welfare-same g are x kept_others =
      welfare-over g are x
      ∙ ap (λ s. (value_of x +ℚ s) +ℚ cost_of x) (sum_by-members (λ r. kept (is_in g.limits r) (penalized m x r)) (penalized m x) (rows m) (λ r c. by r c (is_in g.limits r) refl))
      ∙ sym (welfare-all x)
    where
      by : (r : Row) → Contains (rows m) r → (b : Bool) → is_in g.limits r ≡ b → kept b (penalized m x r) ≡ penalized m x r
      by r c true e = refl
      by r c false e = sym (penalized-none m x r (kept_others r c (λ k. let wrong : false ≡ true = sym e ∙ is_in-in g.limits r k in absurd cc)))

-- ---- the dispatch that goes first
fewer_feasible : (m : Parts) (t : Taken) (y : Dispatch) → AreTaken m t → Feasible m y → FeasibleFor m t y
fewer_feasible m t y are f = record {
  blocks = f.blocks;
  balanced = f.balanced;
  limits = λ r c. f.limits r (are.limits.rows r c);
  need = f.need;
  rooms = λ u c. f.rooms u (are.rooms u c);
}

pub law_of_all_limits : LawOfAllLimits
law_of_all_limits m t x market are p feasible keeps = record {
  best = record { feasible = feasible; best = λ y f. subst (λ w. welfare m y ≤ℚ w) same (≤ℚ_trans (welfare m y) (for_some y) (for_some x) (fewer y) (p.best.best y (fewer_feasible m t y are f))) };
  first = λ y b goes. p.first y (best_of_some y b) goes;
}
  where
    for_some : Dispatch → Fraction
    for_some y = welfare_for m t.limits y

    same : for_some x ≡ welfare m x
    same = welfare-same m market t are.limits x keeps

    fewer : (y : Dispatch) → welfare m y ≤ℚ for_some y
    fewer y = welfare-most m market t are.limits y

    -- one that is best for all is best for some
    best_of_some : (y : Dispatch) → BestFor m (all_of m) y → BestFor m t y
    best_of_some y b = record {
      feasible = fewer_feasible m t y are b.feasible;
      best = λ z f. ≤ℚ_trans (for_some z) (for_some x) (for_some y) (p.best.best z f) (≤ℚ_trans (for_some x) (welfare m y) (for_some y) (subst (λ w. w ≤ℚ welfare m y) (sym same) (b.best x feasible)) (fewer y));
    }
