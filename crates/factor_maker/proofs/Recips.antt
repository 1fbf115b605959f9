-- 1 over a number of small units.
use Rattle.std.specs.Prelude.{◌≡◌, ℕ, ◌<◌, ◌*◌, ℤ, pos, ◌*ℤ◌, ◌<ℤ◌, [], ◌∷◌, refl}
use Rattle.std.proofs.lemmas.Int.{ints}
use Rattle.std.proofs.Common.{arith, ap, subst}
use Rattle.std.proofs.Math.Nat.{mul-pos, zero-lt-suc}
use Rattle.fraction_theory.specs.Fraction.{Fraction, whole, over, ◌*ℚ◌, recip_ℚ}
use Rattle.fraction_theory.proofs.Ring.{by_ring3, at, pone, pneg, ◌⊗◌}
use Rattle.fraction_theory.proofs.FieldLaws.{ring_ℚ, *ℚ-recip, whole_is, widen}
use Rattle.fraction_theory.proofs.FractionLaws.{Is, same_value, times_is, over_is}

whole_apart : (x : ℤ) → ¬ (x ≡ pos 0) → ¬ (whole x ≡ whole (pos 0))
unfolding whole
whole_apart x h e = h (ap (λ (f : Fraction). f.num) e)

module _ (x : ℤ) (d : ℕ) (above : 0 < d) where
  times_units : over x d *ℚ whole (pos d) ≡ whole x
  times_units = same_value (over x d *ℚ whole (pos d)) (whole x) (x *ℤ pos d) (d * 1) (mul-pos above (zero-lt-suc 0))
      (times_is (over x d) (whole (pos d)) x (pos d) d 1 (over_is x d above) (whole_is (pos d)))
      (subst (λ (m : ℕ). Is (whole x) (x *ℤ pos d) m) (let e : 1 * d ≡ d * 1 = Prim.omega arith in e) (widen (whole x) x 1 d (whole_is x)))

  pub recip_units : ¬ (over x d ≡ whole (pos 0)) → ¬ (x ≡ pos 0) → recip_ℚ (over x d) ≡ whole (pos d) *ℚ recip_ℚ (whole x)
  recip_units u v = by_ring3 ring_ℚ (over x d ∷ whole (pos d) ∷ whole x ∷ recip_ℚ (over x d) ∷ recip_ℚ (whole x) ∷ []) (at 3) (at 1 ⊗ at 4)
      (at 1 ⊗ at 4) (at 0 ⊗ at 3) pone (pneg (at 3)) (at 2 ⊗ at 4) pone (pneg (at 3 ⊗ at 4)) (at 0 ⊗ at 1) (at 2)
      (*ℚ-recip (over x d) u) (*ℚ-recip (whole x) (whole_apart x v)) times_units refl

pub over_apart : (x : ℤ) (d : ℕ) → 0 < d → pos 0 <ℤ x → ¬ (over x d ≡ whole (pos 0))
unfolding whole
over_apart x d above positive e =
    let zero : Is (whole (pos 0)) x d = subst (λ (f : Fraction). Is f x d) e (over_is x d above) in
    Prim.omega (arith, ints, zero.cross, positive)
