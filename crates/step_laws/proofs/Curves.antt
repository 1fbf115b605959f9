-- A cost has one value at each output.
use Rattle.std.specs.Prelude.{◌≡◌, ℕ, ◌+◌, ◌-◌, ◌<◌, ◌≤◌, ℤ, ◌≤ℤ◌, ◌<ℤ◌, List, [], ◌∷◌, length, ◌⊎◌}
use Rattle.std.proofs.Common.{zero, suc, arith, ap, sym, ◌∙◌, subst, refl, inl, inr}
use Rattle.std.proofs.lemmas.Int.{ints}
use Rattle.std.proofs.lemmas.Bool.{cases_order}
use Rattle.fraction_theory.specs.Fraction.{Fraction}
use Rattle.fraction_theory.specs.Order.{◌≤ℚ◌}
use Rattle.fraction_theory.proofs.Ring.{at, pone, pneg, ◌⊕◌, ◌⊗◌, by_ring, by_ring1}
use Rattle.fraction_theory.proofs.FieldLaws.{ring_ℚ}
use Rattle.fraction_theory.proofs.OrderLaws.{≤ℚ_trans, ≤ℚ_antisym, ≤ℚ_total}
use Rattle.cost_steps.specs.declared.costs.Cost.TheVariants.{Quadratic, Segments}
use Rattle.cost_steps.specs.declared.costs.CostPoint.{CostPoint}
use Rattle.cost_steps.specs.Costs.{AreCostPoints, LawOfMeanSlopes, dollars, mw, point_at, quadratic_cost, slope_at}
use Rattle.step_laws.specs.CostCurves.{LiesOn, line_cost}
use Rattle.step_laws.specs.Laws.{LawOfOneCost}
use Rattle.step_laws.proofs.Outputs.{mw_order, mw_back}

module _ (mean : LawOfMeanSlopes) (points : List CostPoint) (are : AreCostPoints points) where
  abbrev X : ℕ → ℤ
  X k = (point_at points k).output

  abbrev D : ℕ → Fraction
  D k = dollars (point_at points k).cost

  -- ---- the outputs rise
  rise_by : (i d j : ℕ) → i + d ≡ j → j < length points → X i ≤ℤ X j
  rise_by i zero j e h = let same : i ≡ j = omega (arith, e) in subst (λ t. X i ≤ℤ X t) same (itself (X i))
    where
      itself : (x : ℤ) → x ≤ℤ x
      itself x = omega (arith, ints)
  rise_by i (suc d) j e h =
      let same : i + d + 1 ≡ j = omega (arith, e) in
      subst (λ t. X i ≤ℤ X t) same (trans (X i) (X (i + d)) (X (i + d + 1)) (rise_by i d (i + d) refl (omega (arith, e, h))) (are.rise (i + d) (omega (arith, e, h))))
    where
      trans : (x y z : ℤ) → x ≤ℤ y → y <ℤ z → x ≤ℤ z
      trans x y z p q = omega (arith, ints, p, q)

  rise : (i j : ℕ) → i ≤ j → j < length points → X i ≤ℤ X j
  rise i j p h = rise_by i (j - i) j (omega (arith, p)) h

  -- ---- segments that both hold an output
  line_start : (i : ℕ) → line_cost points i (mw (X i)) ≡ D i
  line_start i = by_ring ring_ℚ (D i ∷ slope_at points i ∷ mw (X i) ∷ []) (at 0 ⊕ at 1 ⊗ (at 2 ⊕ pneg (at 2))) (at 0) refl

  line_end : (i : ℕ) → i + 1 < length points → line_cost points i (mw (X (i + 1))) ≡ D (i + 1)
  line_end i h = by_ring1 ring_ℚ (D i ∷ slope_at points i ∷ mw (X i) ∷ mw (X (i + 1)) ∷ D (i + 1) ∷ [])
      (at 0 ⊕ at 1 ⊗ (at 3 ⊕ pneg (at 2))) (at 4) pone (at 1 ⊗ (at 3 ⊕ pneg (at 2))) (at 4 ⊕ pneg (at 0)) (mean.1 (point_at points i) (point_at points (i + 1)) (are.rise i h)) refl

  next_line : (i j : ℕ) (p : Fraction) → j ≡ i + 1 → j < length points → p ≡ mw (X j) → line_cost points i p ≡ line_cost points j p
  next_line i j p e h at' =
      ap (line_cost points i) at' ∙ ap (λ t. line_cost points i (mw (X t))) e ∙ line_end i (omega (arith, e, h)) ∙ ap D (sym e) ∙ sym (line_start j) ∙ ap (line_cost points j) (sym at')

  later : (i j : ℕ) (p : Fraction) → i < j → LiesOn points i p → LiesOn points j p → line_cost points i p ≡ line_cost points j p
  later i j p lt first second = next_line i j p next (omega (arith, second.segment)) (≤ℚ_antisym p (mw (X j)) (≤ℚ_trans p (mw (X (i + 1))) (mw (X j)) below (mw_order (X (i + 1)) (X j) up)) above)
    where
      below : p ≤ℚ mw (X (i + 1))
      below = first.below (omega (arith, lt, second.segment))

      above : mw (X j) ≤ℚ p
      above = second.above (omega (arith, lt))

      up : X (i + 1) ≤ℤ X j
      up = rise (i + 1) j (omega (arith, lt)) (omega (arith, second.segment))

      down : X j ≤ℤ X (i + 1)
      down = mw_back (X j) (X (i + 1)) (≤ℚ_trans (mw (X j)) p (mw (X (i + 1))) above below)

      apart : (x y z : ℤ) → x <ℤ y → y ≤ℤ z → z ≤ℤ x → ⊥
      apart x y z p q r = omega (arith, ints, p, q, r)

      next : j ≡ i + 1
      next = by (cases_order j (i + 1))
        where
          by : (j ≡ i + 1) ⊎ ((j < i + 1) ⊎ (i + 1 < j)) → j ≡ i + 1
          by (inl e) = e
          by (inr (inl h)) = omega (arith, h, lt)
          by (inr (inr h)) = absurd (apart (X (i + 1)) (X (i + 1 + 1)) (X j) (are.rise (i + 1) (omega (arith, h, second.segment))) (rise (i + 1 + 1) j (omega (arith, h)) (omega (arith, second.segment))) down)

  pub one_line : (i j : ℕ) (p : Fraction) → LiesOn points i p → LiesOn points j p → line_cost points i p ≡ line_cost points j p
  one_line i j p first second = by (cases_order i j)
    where
      by : (i ≡ j) ⊎ ((i < j) ⊎ (j < i)) → line_cost points i p ≡ line_cost points j p
      by (inl e) = ap (λ t. line_cost points t p) e
      by (inr (inl h)) = later i j p h first second
      by (inr (inr h)) = sym (later j i p h second first)

  -- ---- a segment that holds an output
  module _ (p : Fraction) where
    find : (k : ℕ) → k + 1 < length points → ((place : ℕ) × LiesOn points place p) ⊎ (0 < k → mw (X k) ≤ℚ p)
    find zero h = inr (λ above. absurd (omega (arith, above)))
    find (suc k) h = by (find k (omega (arith, h))) (≤ℚ_total p (mw (X (k + 1))))
      where
        next : k + 1 ≡ suc k
        next = omega arith

        by : ((place : ℕ) × LiesOn points place p) ⊎ (0 < k → mw (X k) ≤ℚ p) → ((p ≤ℚ mw (X (k + 1))) ⊎ (mw (X (k + 1)) ≤ℚ p)) → ((place : ℕ) × LiesOn points place p) ⊎ (0 < suc k → mw (X (suc k)) ≤ℚ p)
        by (inl found) _ = inl found
        by (inr above) (inl below) = inl (k, record { segment = omega (arith, h); above = above; below = λ inner. below })
        by (inr above) (inr past) = inr (λ some. subst (λ t. mw (X t) ≤ℚ p) next past)

    pub holding : (place : ℕ) × LiesOn points place p
    holding = by (find (length points - 2) (omega (arith, are.some)))
      where
        by : ((place : ℕ) × LiesOn points place p) ⊎ (0 < length points - 2 → mw (X (length points - 2)) ≤ℚ p) → (place : ℕ) × LiesOn points place p
        by (inl found) = found
        by (inr above) = (length points - 2, record { segment = omega (arith, are.some); above = above; below = λ inner. absurd (omega (arith, inner, are.some)) })

pub one_cost : LawOfMeanSlopes → LawOfOneCost
one_cost mean (Quadratic square linear) p is = (quadratic_cost square linear p, refl, λ d e. e)
one_cost mean (Segments points) p is =
    let (place, lies) = holding mean points is p in
    (line_cost points place p, (place, lies, refl), λ d at'. at'.2 ∙ one_line mean points is at'.0 place p at'.1 lies)
