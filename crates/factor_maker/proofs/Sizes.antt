-- The nearest units of a number whose size is at most 1.
use Rattle.std.proofs.Common.{◌≡◌, ◌∙◌, ◌≤◌, ◌*◌, ◌^◌, ℕ, ℤ, pos, unsigned_abs, [], ◌∷◌, sym, ap, subst, refl, arith}
use Rattle.std.specs.Prelude.{◌≤ℤ◌, neg_ℤ}
use Rattle.std.proofs.Common.{inl, inr}
use Rattle.std.proofs.lemmas.Int.{ints}
use Rattle.fraction_theory.specs.Fraction.{Fraction, whole, ◌-ℚ◌, neg_ℚ}
use Rattle.fraction_theory.specs.Order.{◌≤ℚ◌}
use Rattle.fraction_theory.specs.Signs.{abs_ℚ}
use Rattle.fraction_theory.proofs.Ring.{at, pnil, pone, pneg, ◌⊗◌, by_ring}
use Rattle.fraction_theory.proofs.FieldLaws.{ring_ℚ, *ℚ_one, whole-neg}
use Rattle.fraction_theory.proofs.FractionLaws.{over_is}
use Rattle.fraction_theory.proofs.OrderLaws.{≤ℚ-or-<ℚ, <ℚ-≤ℚ, ≤ℚ_trans, ≤ℚ_refl, ≤ℚ_of_same, by_le1, by_le2, NonNeg-one, NonNeg_to}
use Rattle.fraction_theory.proofs.SignLaws.{abs_above, abs_below, abs_opposite}
use Rattle.exact_fraction.specs.Nearest.{IsNearest, half, in_units}
use Rattle.exact_fraction.proofs.Nearest.{nearest_order}
use Rattle.market_data.specs.Scales.{most_factor, place_count, place_step}
use Rattle.market_data.specs.declared.scales.FactorPlaces.{FactorPlaces}
use Rattle.market_data.specs.declared.scales.FactorPlaces.TheVariants.{Six, Nine}

abs_most : (x : Fraction) → x ≤ℚ abs_ℚ x
abs_most x = elim (≤ℚ-or-<ℚ x (whole (pos 0))) [
  | inl below ↦ subst (λ t. x ≤ℚ t) (sym (abs_below x below)) (by_le2 (x ∷ []) (at 0) (pneg (at 0)) pone (at 0) pnil pone (at 0) pnil NonNeg-one below NonNeg-one below refl)
  | inr above ↦ ≤ℚ_of_same x (abs_ℚ x) (sym (abs_above x (<ℚ-≤ℚ (whole (pos 0)) x above)))
]

half_above : whole (pos 0) ≤ℚ half
half_above = let cross = (over_is (pos 1) 2 (Prim.omega arith)).cross in NonNeg_to half (record { sign = Prim.omega (arith, ints, cross) })

-- a whole number of units is nearest to itself
near_itself : (p : ℕ) (q : Fraction) (k : ℤ) → in_units p q ≡ whole k → IsNearest p q k
near_itself p q k e =
    let none : in_units p q -ℚ whole k ≡ whole (pos 0) = ap (λ t. t -ℚ whole k) e ∙ ring_ℚ.plus_neg (whole k) in
    record {
      within = subst (λ t. abs_ℚ t ≤ℚ half) (sym none) (subst (λ t. t ≤ℚ half) (sym (abs_above (whole (pos 0)) (≤ℚ_refl (whole (pos 0))))) half_above);
      away = λ _. ≤ℚ_of_same (abs_ℚ (in_units p q)) (abs_ℚ (whole k)) (ap abs_ℚ e);
    }

module _ (p : ℕ) (q : Fraction) (k : ℤ) (small : abs_ℚ q ≤ℚ whole (pos 1)) (near : IsNearest p q k) where
  most : k ≤ℤ pos (10 ^ p)
  most = nearest_order p q (whole (pos 1)) k (pos (10 ^ p)) (≤ℚ_trans q (abs_ℚ q) (whole (pos 1)) (abs_most q) small) near
      (near_itself p (whole (pos 1)) (pos (10 ^ p)) (*ℚ_one (whole (pos (10 ^ p)))))

  least : neg_ℤ (pos (10 ^ p)) ≤ℤ k
  least = nearest_order p (neg_ℚ (whole (pos 1))) q (neg_ℤ (pos (10 ^ p))) k
      (by_le1 (q ∷ []) (pneg pone) (at 0) pone (pneg (at 0)) pone NonNeg-one (≤ℚ_trans (neg_ℚ q) (abs_ℚ q) (whole (pos 1)) (subst (λ t. neg_ℚ q ≤ℚ t) (abs_opposite q) (abs_most (neg_ℚ q))) small) refl)
      (near_itself p (neg_ℚ (whole (pos 1))) (neg_ℤ (pos (10 ^ p))) (by_ring ring_ℚ (whole (pos (10 ^ p)) ∷ []) (at 0 ⊗ pneg pone) (pneg (at 0)) refl ∙ sym (whole-neg (pos (10 ^ p)))))
      near

  size : unsigned_abs k ≤ 10 ^ p
  size = let m = most in let l = least in Prim.omega (arith, ints, m, l)

pub units_small : (places : FactorPlaces) (q : Fraction) (k : ℤ) → abs_ℚ q ≤ℚ whole (pos 1) → IsNearest (place_count places) q k → unsigned_abs k * place_step places ≤ most_factor
units_small Six q k small near = let h = size 6 q k small near in Prim.omega (arith, h)
units_small Nine q k small near = let h = size 9 q k small near in Prim.omega (arith, h)
