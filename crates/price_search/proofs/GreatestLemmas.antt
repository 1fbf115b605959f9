-- The greatest size of a factor, number by number.
use Rattle.std.specs.Prelude.{ℕ, ◌+◌, ◌<◌, List, [], ◌∷◌, ◌++◌, length, take, Contains}
use Rattle.std.proofs.Common.{arith, sym, subst, inl, inr, get_or}
use Rattle.std.proofs.lemmas.List.{take_more}
use Rattle.std.proofs.lemmas.List.Elements.{Contains-append_cases, Contains-append_left, Contains-append_right}
use Rattle.fraction_theory.specs.Fraction.{Fraction}
use Rattle.fraction_theory.specs.Order.{◌≤ℚ◌}
use Rattle.fraction_theory.proofs.ListSums.{Contains-cases, Contains-filter, Contains-head, same_or_not}
use Rattle.fraction_theory.proofs.OrderLaws.{≤ℚ_refl, ≤ℚ_trans}
use Rattle.market_model.specs.declared.limits.Row.{Row}
use Rattle.market_model.specs.declared.participants.Parts.{Parts}
use Rattle.market_model.specs.Dispatch.{Dispatch, zero}
use Rattle.market_model.specs.LimitRows.{rows}
use Rattle.price_dict.specs.Reached.{is_reached, reached_rows}
use Rattle.price_system.specs.PriceSystem.{IsFactorSize}
use Rattle.price_search.specs.Caps.{IsGreater, IsGreatestFactor, IsGreatestWith, factor_size}

-- ---- two numbers
pub is_left : (a b : Fraction) → b ≤ℚ a → IsGreater a b a
is_left a b h = record { left = ≤ℚ_refl a; right = h; least = λ g p q. p }

pub is_right : (a b : Fraction) → a ≤ℚ b → IsGreater a b b
is_right a b h = record { left = h; right = ≤ℚ_refl b; least = λ g p q. q }

-- ---- the blocks of a row
pub with_none : (m : Parts) (r : Row) (x : Fraction) → IsGreatestWith m r 0 x x
with_none m r x = record { number = ≤ℚ_refl x; each = λ j lt. absurd (Prim.omega (arith, lt)); least = λ g p q. p }

module _ (m : Parts) (r : Row) (k : ℕ) (x before after : Fraction) (is : IsGreatestWith m r k x before) (greater : IsGreater before (factor_size m r k) after) where
  each_next : (j : ℕ) → j < k + 1 → factor_size m r j ≤ℚ after
  each_next j lt = elim (same_or_not j k) [
    | inl e ↦ subst (λ (i : ℕ). factor_size m r i ≤ℚ after) (sym e) greater.right
    | inr n ↦ ≤ℚ_trans (factor_size m r j) before after (is.each j (Prim.omega (arith, lt, n))) greater.left
  ]

  pub with_next : IsGreatestWith m r (k + 1) x after
  with_next = record {
    number = ≤ℚ_trans x before after is.number greater.left;
    each = each_next;
    least = λ g p q. greater.least g (is.least g p (λ j lt. q j (Prim.omega (arith, lt)))) (q k (Prim.omega arith));
  }

-- ---- the rows
pub factor_none : (m : Parts) → IsGreatestFactor m [] zero
factor_none m = record { sign = ≤ℚ_refl zero; each = λ r j k lt. absurd (Prim.omega (arith, k.1)); least = λ g p q. p }

module _ (m : Parts) (rs : List Row) (r : Row) (before after : Fraction) (is : IsGreatestFactor m rs before) (with : IsGreatestWith m r (length m.blocks) before after) where
  each_row : (q : Row) (j : ℕ) → Contains (rs ++ r ∷ []) q → j < length m.blocks → factor_size m q j ≤ℚ after
  each_row q j k lt = elim (Contains-append_cases rs (r ∷ []) q k) [
    | inl p ↦ ≤ℚ_trans (factor_size m q j) before after (is.each q j p lt) with.number
    | inr p ↦ elim (Contains-cases r [] q p) [
      | inl e ↦ subst (λ (s : Row). factor_size m s j ≤ℚ after) e (with.each j lt)
      | inr n ↦ absurd (Prim.omega (arith, n.1))
    ]
  ]

  row_behind : IsGreatestFactor m (rs ++ r ∷ []) after
  row_behind = record {
    sign = ≤ℚ_trans zero before after is.sign with.number;
    each = each_row;
    least = λ g p q.
        with.least g (is.least g p (λ s j k lt. q s j (Contains-append_left rs (r ∷ []) s k) lt))
        (λ j lt. q r j (Contains-append_right rs (r ∷ []) r (Contains-head r [])) lt);
  }

pub row_next : (m : Parts) (rs : List Row) (k : ℕ) (d : Row) (before after : Fraction) → k < length rs → IsGreatestFactor m (take k rs) before
    → IsGreatestWith m (get_or rs k d) (length m.blocks) before after → IsGreatestFactor m (take (k + 1) rs) after
row_next m rs k d before after lt is with =
    subst (λ (us : List Row). IsGreatestFactor m us after) (sym (take_more rs k d lt)) (row_behind m (take k rs) (get_or rs k d) before after is with)

-- ---- those that are reached
pub sized : (m : Parts) (x : Dispatch) (f factor : Fraction) → IsGreatestFactor m (reached_rows m x) f → f ≤ℚ factor → IsFactorSize m x factor
sized m x f factor is more = record {
  sign = ≤ℚ_trans zero f factor is.sign more;
  most = λ r j k e lt. ≤ℚ_trans (factor_size m r j) f factor (is.each r j (Contains-filter (is_reached m x) (rows m) r k e) lt) more;
}
