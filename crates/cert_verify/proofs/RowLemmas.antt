-- What is looked up of a row by its name, and the operations refused.
use Rattle.std.specs.Prelude.{◌≡◌, ◌≢◌, ◌&&◌, ◌||◌, pos, ℕ, Bool, true, false, not, List, [], ◌∷◌, ◌++◌, Contains, Option, Some, None, MatchOption, is_some, refl}
use Rattle.std.specs.List.{list_any}
use Rattle.std.proofs.Common.{ap, ap₂, sym, subst, ◌∙◌}
use Rattle.std.proofs.lemmas.Bool.{true≢false}
use Rattle.std.proofs.lemmas.List.{length-map}
use Rattle.fraction_theory.specs.Fraction.{Fraction, neg_ℚ}
use Rattle.fraction_theory.proofs.OrderLaws.{≤ℚ_of_same, ≤ℚ_refl, opposite_most}
use Rattle.exact_fraction.specs.declared.Passed.{Passed}
use Rattle.market_model.specs.declared.answered.Dual.{Dual}
use Rattle.market_model.specs.declared.answered.Duals.{Duals}
use Rattle.market_model.specs.declared.participants.Parts.{Parts}
use Rattle.market_model.specs.Dispatch.{Dispatch, zero}
use Rattle.market_model.specs.declared.limits.Row.{Row}
use Rattle.market_model.specs.LimitRows.{carried, rows, row_id, limit, penalty, is_soft, most_flow, flow}
use Rattle.market_model.specs.Market.{IsMarket}
use Rattle.market_model.specs.Optimality.{names_row}
use Rattle.market_model.specs.SumTables.{IsFlowRefusal}
use Rattle.market_model.proofs.Excesses.{hard_costs_nothing, penalty_least}
use Rattle.market_model.proofs.WholeDispatch.{whole-<ℚ}
use Rattle.limit_rows.proofs.ApartLemmas.{same_row}
use Rattle.limit_rows.proofs.PlaceLemmas.{same_name}
use Rattle.limit_rows.specs.Naming.{has_name}
use Rattle.cert_sums.specs.Refusals.{IsCarriedRefusal}
use Rattle.cert_verify.specs.declared.certified.CertifiedDispatch.{CertifiedDispatch}
use Rattle.cert_verify.specs.Certified.{HasEachQuantity, certified_dispatch}
use Rattle.cert_verify.specs.Reasons.{NoneOf, balance_reason, differ, has_no_row, has_slack, is_below, is_unpriced, limit_reason, need_reason, passes, breaks_row, breaks_side, part_reasons, sum_reasons}
use Rattle.cert_verify.specs.Stops.{IsLimitPair, of_carried, of_row}
use Rattle.cert_verify.proofs.TestLemmas.{all_none, any_of, any_none, below_not, below_of, int_lt-true, neither, not_below, none_first, none_join, not_both, not_true}
use Rattle.cert_verify.proofs.VerdictLemmas.{counts_to, named}

-- ---- a row by its name
-- no row of the market has the name of a dual
abbrev pub IsUnknown : Parts → Dual Fraction → Type 0
IsUnknown m e = (r : Row) → Contains (rows m) r → row_id m r ≢ e.row

not_of : (m : Parts) (e : Dual Fraction) → IsUnknown m e → (r : Row) → Contains (rows m) r → has_name m e.row r ≡ false
not_of m e none r c = by (has_name m e.row r) refl
  where
    by : (b : Bool) → has_name m e.row r ≡ b → b ≡ false
    by true t = absurd (none r c (same_name (row_id m r) e.row t))
    by false t = refl

-- whether a dual has no row, where its name was looked up
pub no_row_by : (m : Parts) (e : Dual Fraction) (o : Option Row) → MatchOption o (IsUnknown m e) (λ row. Contains (rows m) row × (row_id m row ≡ e.row))
    → (b : Bool) → is_some o ≡ not b → has_no_row m e ≡ b
no_row_by m e None h true none = ap not (any_none (has_name m e.row) (rows m) (not_of m e h))
no_row_by m e None h false none = absurd (true≢false (sym none))
no_row_by m e (Some row) h true none = absurd (true≢false none)
no_row_by m e (Some row) h false none = not_true (list_any (has_name m e.row) (rows m)) (any_of (has_name m e.row) (rows m) row h.0 (named (row_id m row) e.row h.1))

pub no_slack : (m : Parts) (x : Dispatch) (e : Dual Fraction) → IsUnknown m e → has_slack m x e ≡ false
no_slack m x e none =
    any_none (λ r. has_name m e.row r && breaks_row m r e.up e.down (flow m x r)) (rows m)
    (λ r c. not_both (has_name m e.row r) (breaks_row m r e.up e.down (flow m x r)) (λ t. absurd (true≢false (sym t ∙ not_of m e none r c))))

-- of the row of its name alone
pub slack_named : (m : Parts) → IsMarket m → (x : Dispatch) (e : Dual Fraction) (r : Row) → Contains (rows m) r → row_id m r ≡ e.row → has_slack m x e ≡ breaks_row m r e.up e.down (flow m x r)
slack_named m market x e r c same = by (breaks_row m r e.up e.down (flow m x r)) refl
  where
    by : (b : Bool) → breaks_row m r e.up e.down (flow m x r) ≡ b → has_slack m x e ≡ b
    by true t = any_of (λ s. has_name m e.row s && breaks_row m s e.up e.down (flow m x s)) (rows m) r c (Prim.rw (named (row_id m r) e.row same, t) refl)
    by false t =
        any_none (λ s. has_name m e.row s && breaks_row m s e.up e.down (flow m x s)) (rows m)
        (λ s k. not_both (has_name m e.row s) (breaks_row m s e.up e.down (flow m x s))
        (λ u. subst (λ (z : Row). breaks_row m z e.up e.down (flow m x z) ≡ false) (same_row m market r s c k (same ∙ sym (same_name (row_id m s) e.row u))) t))

-- ---- a row that no dual names
-- where neither price is above 0, what is left to test of a side is that the flow exceeds the limit at a penalty
side_free : (exceeds costs : Bool) → costs ≡ true → (exceeds && costs) || false ≡ exceeds
side_free true costs e = Prim.rw e refl
side_free false costs e = refl

side_hard : (exceeds costs : Bool) → costs ≡ false → (exceeds && costs) || false ≡ false
side_hard true costs e = Prim.rw e refl
side_hard false costs e = refl

-- a flow passes a limit on the lower side where its opposite passes it on the upper one
opposite_below : (f l : Fraction) → is_below f (neg_ℚ l) ≡ is_below l (neg_ℚ f)
opposite_below f l = by (is_below f (neg_ℚ l)) (is_below l (neg_ℚ f)) refl refl
  where
    by : (a b : Bool) → is_below f (neg_ℚ l) ≡ a → is_below l (neg_ℚ f) ≡ b → a ≡ b
    by true true e g = refl
    by false b e g = sym (below_not l (neg_ℚ f) (opposite_most l f (not_below f (neg_ℚ l) e))) ∙ g
    by true false e g = sym e ∙ below_not f (neg_ℚ l) (opposite_most f l (not_below l (neg_ℚ f) g))

either_side : (f l : Fraction) → passes f l ≡ (is_below l f || is_below l (neg_ℚ f))
either_side f l = ap (λ (b : Bool). b || is_below l f) (opposite_below f l) ∙ swapped (is_below l (neg_ℚ f)) (is_below l f)
  where
    swapped : (a b : Bool) → (a || b) ≡ (b || a)
    swapped true true = refl
    swapped true false = refl
    swapped false true = refl
    swapped false false = refl

-- a row that some dual names
pub unpriced_named : (m : Parts) (x : Dispatch) (ds : List (Dual Fraction)) (r : Row) → names_row ds (row_id m r) ≡ true → is_unpriced m x ds r ≡ false
unpriced_named m x ds r e = ap (λ (b : Bool). not b && breaks_row m r zero zero (flow m x r)) e

module _ (m : Parts) (market : IsMarket m) (x : Dispatch) (ds : List (Dual Fraction)) (r : Row) where
  -- no price of 0 is below a penalty of 0, and none is above a penalty
  not_nil : is_below zero zero ≡ false
  not_nil = below_not zero zero (≤ℚ_refl zero)

  not_over : is_below (penalty m r) zero ≡ false
  not_over = below_not (penalty m r) zero (penalty_least m market r)

  -- what is left of the tests of a side
  exceeds_only : (f : Fraction) → breaks_side m r zero f ≡ ((is_below (limit m r) f && is_below zero (penalty m r)) || false)
  exceeds_only f = ap₂ (λ (a b : Bool). (a && is_below f (limit m r)) || (is_below (limit m r) f && is_below zero (penalty m r)) || (b && differ f (most_flow m r))) not_nil not_over

  free_side : (f : Fraction) → is_soft m r ≡ true → breaks_side m r zero f ≡ is_below (limit m r) f
  free_side f soft = exceeds_only f ∙ side_free (is_below (limit m r) f) (is_below zero (penalty m r)) (below_of zero (penalty m r) (whole-<ℚ (pos 0) _ (int_lt-true (pos 0) _ soft)))

  hard_side : (f : Fraction) → is_soft m r ≡ false → breaks_side m r zero f ≡ false
  hard_side f hard =
      exceeds_only f
      ∙ side_hard (is_below (limit m r) f) (is_below zero (penalty m r)) (below_not zero (penalty m r) (≤ℚ_of_same (penalty m r) zero (hard_costs_nothing m market r hard)))

  pub unpriced_hard : is_soft m r ≡ false → is_unpriced m x ds r ≡ false
  unpriced_hard hard =
      not_both (not (names_row ds (row_id m r))) (breaks_row m r zero zero (flow m x r))
      (λ t. neither (breaks_side m r zero (flow m x r)) (breaks_side m r zero (neg_ℚ (flow m x r))) (hard_side (flow m x r) hard) (hard_side (neg_ℚ (flow m x r)) hard))

  -- a flow passes the limit
  pub unpriced_free : is_soft m r ≡ true → names_row ds (row_id m r) ≡ false → passes (flow m x r) (limit m r) ≡ is_unpriced m x ds r
  unpriced_free soft free =
      either_side (flow m x r) (limit m r)
      ∙ sym (ap₂ (λ (a b : Bool). a || b) (free_side (flow m x r) soft) (free_side (neg_ℚ (flow m x r)) soft))
      ∙ sym (ap (λ (b : Bool). not b && breaks_row m r zero zero (flow m x r)) free)

-- ---- refusals
-- what is carried at a dispatch
pub carried_pair : (m : Parts) (x : Dispatch) (bound : ℕ) (p : Passed Fraction) → IsCarriedRefusal m x bound p → IsLimitPair m x bound p
carried_pair m x bound p why = of_carried why

-- a flow of a row of the market, of what is carried at a dispatch
pub limit_pair : (m : Parts) (x : Dispatch) (r : Row) (bound : ℕ) (p : Passed Fraction) → Contains (rows m) r → IsFlowRefusal m (carried m x) r bound p → IsLimitPair m x bound p
limit_pair m x r bound p listed why = of_row (r, listed, why)

-- where nothing is wrong with the parts, none of the reasons up to these holds where these do not
module _ (m : Parts) (x : Dispatch) (d : Duals Fraction) (before : NoneOf (part_reasons m x d)) (balanced : balance_reason m x ≡ None) where
  pub before_need : NoneOf (part_reasons m x d ++ balance_reason m x ∷ [])
  before_need = none_join (part_reasons m x d) (balance_reason m x ∷ []) before (none_first (balance_reason m x ∷ []) (balanced, tt))

  pub before_limits : need_reason m x ≡ None → NoneOf (part_reasons m x d ++ sum_reasons m x)
  before_limits met = none_join (part_reasons m x d) (sum_reasons m x) before (none_first (sum_reasons m x) (balanced, (met, tt)))

  pub before_rooms : need_reason m x ≡ None → limit_reason m x ≡ None → NoneOf (part_reasons m x d ++ sum_reasons m x ++ limit_reason m x ∷ [])
  before_rooms met within =
      none_join (part_reasons m x d) (sum_reasons m x ++ limit_reason m x ∷ []) before (none_first (sum_reasons m x ++ limit_reason m x ∷ []) (balanced, (met, (within, tt))))

-- and there is one quantity for each block and each offer
pub counts : {N : Type 0} (value : N → Fraction) (m : Parts) (x : CertifiedDispatch N) (d : Duals Fraction) → NoneOf (part_reasons m (certified_dispatch value x) d) → HasEachQuantity m x
counts value m x d none =
    let same = counts_to m (certified_dispatch value x) (all_none (part_reasons m (certified_dispatch value x) d) none).0 in
    record { blocks = sym (length-map x.blocks.now value) ∙ same.0; quantities = sym (length-map x.quantities.now value) ∙ same.1 }
