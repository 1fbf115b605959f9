-- Two fractions of a width with the same whole numbers are one.
use Rattle.std.specs.Prelude.{◌≡◌, ◌≤◌, pos, ◌<ℤ◌, unsigned_abs}
use Rattle.std.proofs.Common.{ap, sym, ◌∙◌, subst}
use Rattle.std.specs.Int.{IsGcd}
use Rattle.std.proofs.Math.Bridge.{le_prop}
use lib.Dec.{T_prop}
use lib.Signed.{lt_z}
use Rattle.fraction_theory.specs.Divisors.{IsGcd_prop}
use Rattle.fraction_theory.specs.Fraction.{Fraction}
use Rattle.exact_fraction.specs.Sizes.{fraction_of, same_size}
use Rattle.exact_fraction.specs.declared.word.Word.{Ghosts}
use Rattle.exact_fraction.specs.declared.ratio.Ratio.{Ratio}

module _ (X : Type 0) (g : Ghosts X) where
  -- n over d within the bound, in lowest terms
  IsSound : X → X → Type 0
  IsSound n d = (pos 0 <ℤ g.int d) × (unsigned_abs (g.int n) ≤ g.bound) × (unsigned_abs (g.int d) ≤ g.bound) × IsGcd (unsigned_abs (g.int n)) (unsigned_abs (g.int d)) 1

  IsSound_prop : (n d : X) → IsProp (IsSound n d)
  unfolding IsSound
  IsSound_prop n d p q = λ i. (
    record { lt = T_prop (lt_z (pos 0) (g.int d)) p.0.lt q.0.lt i },
    le_prop p.1 q.1 i,
    le_prop p.2 q.2 i,
    IsGcd_prop (unsigned_abs (g.int n)) (unsigned_abs (g.int d)) 1 p.3 q.3 i,
  )

  -- the fraction of these words
  make : (n d : X) → IsSound n d → Ratio X g
  unfolding IsSound
  make n d s = record { num = n; den = d; above = s.0; num_fits = s.1; den_fits = s.2; lowest = s.3 }

  made_same : (n m d e : X) → n ≡ m → d ≡ e → (s : IsSound n d) (t : IsSound m e) → make n d s ≡ make m e t
  made_same n m d e p q = subst (λ (z : X). (s : IsSound n d) (t : IsSound z e) → make n d s ≡ make z e t) p
      (subst (λ (z : X). (s : IsSound n d) (t : IsSound n z) → make n d s ≡ make n z t) q (λ s t. ap (make n d) (IsSound_prop n d s t)))

  pub same_ratio : (x y : Ratio X g) → x.num ≡ y.num → x.den ≡ y.den → x ≡ y
  unfolding make IsSound
  same_ratio x y p q = made_same x.num y.num x.den y.den p q (x.above, x.num_fits, x.den_fits, x.lowest) (y.above, y.num_fits, y.den_fits, y.lowest)

  pub same_value_ratio : ((a b : X) → g.int a ≡ g.int b → a ≡ b) → (x y : Ratio X g)
      → fraction_of (g.int x.num) (g.int x.den) x.above x.lowest ≡ fraction_of (g.int y.num) (g.int y.den) y.above y.lowest → x ≡ y
  same_value_ratio apart x y e = same_ratio x y
      (apart x.num y.num (ap (λ (t : Fraction). t.num) e))
      (apart x.den y.den (same_size (g.int x.den) x.above ∙ ap (λ (t : Fraction). pos t.den) e ∙ sym (same_size (g.int y.den) y.above)))
