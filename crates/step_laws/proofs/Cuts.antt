-- Where a range is cut by the points of segments.
use Rattle.std.specs.Prelude.{◌≡◌, ℕ, ◌+◌, ◌-◌, ◌<◌, ◌==◌, ℤ, ◌≤ℤ◌, ◌<ℤ◌, Bool, List, length, if◌then◌else◌, ◌⊎◌, true, false}
use Rattle.std.specs.Int.{int_max, int_min}
use Rattle.std.proofs.Common.{zero, suc, arith, ap, sym, ◌∙◌, subst, subst₂, refl, inl, inr}
use Rattle.std.proofs.lemmas.Int.{ints, clamps}
use Rattle.std.proofs.lemmas.Bool.{eq-eqb, ne_eqb, cases_eq}
use Rattle.cost_steps.specs.declared.costs.CostPoint.{CostPoint}
use Rattle.cost_steps.specs.Costs.{AreCostPoints, mw, point_at}
use Rattle.cost_steps.specs.Parts.{point_cut}
use Rattle.step_laws.specs.CostCurves.{LiesOn}
use Rattle.step_laws.proofs.Outputs.{mw_order}

itself : (x : ℤ) → x ≤ℤ x
itself x = omega (arith, ints)

module _ (low high : ℤ) (points : List CostPoint) (order : low ≤ℤ high) (are : AreCostPoints points) where
  abbrev N : ℕ
  N = length points - 1

  abbrev C : ℕ → ℤ
  C = point_cut low high points

  abbrev X : ℕ → ℤ
  X k = (point_at points k).output

  pub cut_last : C N ≡ high
  cut_last =
      ap (λ (b : Bool). if b then low else if N == N then high else int_max low (int_min (X N) high)) (ne_eqb N 0 (λ e. omega (arith, e, are.some)))
      ∙ ap (λ (b : Bool). if b then high else int_max low (int_min (X N) high)) (eq-eqb N N refl)

  cut_inner : (k : ℕ) → 0 < k → k < N → C k ≡ int_max low (int_min (X k) high)
  cut_inner k p q =
      ap (λ (b : Bool). if b then low else if k == N then high else int_max low (int_min (X k) high)) (ne_eqb k 0 (λ e. omega (arith, e, p)))
      ∙ ap (λ (b : Bool). if b then high else int_max low (int_min (X k) high)) (ne_eqb k N (λ e. omega (arith, e, q)))

  clamped : (x : ℤ) → (low ≤ℤ int_max low (int_min x high)) × (int_max low (int_min x high) ≤ℤ high)
  clamped x = (omega (arith, ints, clamps, order), omega (arith, ints, clamps, order))

  clamped_rise : (x y : ℤ) → x <ℤ y → int_max low (int_min x high) ≤ℤ int_max low (int_min y high)
  clamped_rise x y h = omega (arith, ints, clamps, h)

  cut_within : (k : ℕ) → (low ≤ℤ C k) × (C k ≤ℤ high)
  cut_within k = by (k == 0) (k == N)
    where
      by : (a b : Bool) → let cut : ℤ = if a then low else if b then high else int_max low (int_min (X k) high) in (low ≤ℤ cut) × (cut ≤ℤ high)
      by true b = (itself low, order)
      by false true = (order, itself high)
      by false false = clamped (X k)

  pub cuts_rise : (k : ℕ) → k < N → C k ≤ℤ C (k + 1)
  cuts_rise zero h = (cut_within (zero + 1)).0
  cuts_rise (suc k) h = by (cases_eq (suc k + 1) N)
    where
      by : ((suc k + 1 ≡ N) ⊎ (suc k + 1 ≡ N → ⊥)) → C (suc k) ≤ℤ C (suc k + 1)
      by (inl e) = subst (λ t. C (suc k) ≤ℤ t) (sym cut_last ∙ ap C (sym e)) (cut_within (suc k)).1
      by (inr n) = subst₂ ◌≤ℤ◌ (sym (cut_inner (suc k) (omega arith) h)) (sym (cut_inner (suc k + 1) (omega arith) (omega (arith, n, h))))
          (clamped_rise (X (suc k)) (X (suc k + 1)) (are.rise (suc k) (omega (arith, h))))

  -- a part with a width lies on its segment
  module _ (k : ℕ) (within : k + 1 < length points) (width : C k <ℤ C (k + 1)) where
    from_above : 0 < k → X k ≤ℤ C k
    from_above p = subst (λ t. X k ≤ℤ t) (sym e) (above (X k) (C (k + 1)) (cut_within (k + 1)).1 (subst (λ t. t <ℤ C (k + 1)) e width))
      where
        e : C k ≡ int_max low (int_min (X k) high)
        e = cut_inner k p (omega (arith, within))

        above : (x z : ℤ) → z ≤ℤ high → int_max low (int_min x high) <ℤ z → x ≤ℤ int_max low (int_min x high)
        above x z p q = omega (arith, ints, clamps, p, q)

    to_below : k + 2 < length points → C (k + 1) ≤ℤ X (k + 1)
    to_below p = subst (λ t. t ≤ℤ X (k + 1)) (sym e) (below (X (k + 1)) (C k) (cut_within k).0 (subst (λ t. C k <ℤ t) e width))
      where
        e : C (k + 1) ≡ int_max low (int_min (X (k + 1)) high)
        e = cut_inner (k + 1) (omega arith) (omega (arith, p))

        below : (x z : ℤ) → low ≤ℤ z → z <ℤ int_max low (int_min x high) → int_max low (int_min x high) ≤ℤ x
        below x z p q = omega (arith, ints, clamps, p, q)

    up_to : (x y z : ℤ) → x <ℤ y → y ≤ℤ z → x ≤ℤ z
    up_to x y z p q = omega (arith, ints, p, q)

    up_from : (x y z : ℤ) → x ≤ℤ y → y <ℤ z → x ≤ℤ z
    up_from x y z p q = omega (arith, ints, p, q)

    pub from_lies : LiesOn points k (mw (C k))
    from_lies = record {
      segment = within;
      above = λ p. mw_order (X k) (C k) (from_above p);
      below = λ p. mw_order (C k) (X (k + 1)) (up_to (C k) (C (k + 1)) (X (k + 1)) width (to_below p));
    }

    pub to_lies : LiesOn points k (mw (C (k + 1)))
    to_lies = record {
      segment = within;
      above = λ p. mw_order (X k) (C (k + 1)) (up_from (X k) (C k) (C (k + 1)) (from_above p) width);
      below = λ p. mw_order (C (k + 1)) (X (k + 1)) (to_below p);
    }
