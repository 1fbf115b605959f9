-- The laws of signs.
use Rattle.std.specs.Prelude.{◌≡◌, ℤ, pos, negsuc, ◌<ℤ◌, [], ◌∷◌, refl}
use Rattle.std.proofs.Common.{zero, suc, arith, ap, sym, ◌∙◌, subst, inl, inr}
use Rattle.std.proofs.lemmas.Int.{ints}
use Rattle.fraction_theory.specs.declared.Sign.{Sign}
use Rattle.fraction_theory.specs.declared.Sign.TheVariants.{Below, Zero, Above}
use Rattle.fraction_theory.specs.Fraction.{Fraction, whole, neg_ℚ, ◌+ℚ◌, ◌-ℚ◌}
use Rattle.fraction_theory.specs.Order.{◌<ℚ◌, ◌≤ℚ◌}
use Rattle.fraction_theory.specs.Signs.{sign_of, sign_of_int, abs_by, abs_ℚ, where_above, part_above}
use Rattle.fraction_theory.proofs.Ring.{by_ring, by_ring1, at, pnil, pone, pneg, ◌⊕◌}
use Rattle.fraction_theory.proofs.FractionLaws.{same_value, itself}
use Rattle.fraction_theory.proofs.FieldLaws.{ring_ℚ, zero_is}
use Rattle.fraction_theory.proofs.OrderLaws.{≤ℚ-or-<ℚ, <ℚ-≤ℚ, <ℚ-not-≤ℚ, ≤ℚ_refl, opposite_most, by_le1, by_le2, NonNeg-one}

-- by the numerator
pub sign_zero : (x : Fraction) → x.num ≡ pos 0 → Zero ≡ sign_of x
unfolding sign_of
sign_zero x e = sym (ap sign_of_int e)

pub sign_below : (x : Fraction) → x.num <ℤ pos 0 → Below ≡ sign_of x
unfolding sign_of
sign_below x h = by_num x.num h
  where
    by_num : (n : ℤ) → n <ℤ pos 0 → Below ≡ sign_of_int n
    by_num (pos n) h = absurd (Prim.omega (arith, ints))
    by_num (negsuc n) h = refl

pub sign_above : (x : Fraction) → ¬ (x.num ≡ pos 0) → ¬ (x.num <ℤ pos 0) → Above ≡ sign_of x
unfolding sign_of
sign_above x n h = by_num x.num n h
  where
    by_num : (n : ℤ) → ¬ (n ≡ pos 0) → ¬ (n <ℤ pos 0) → Above ≡ sign_of_int n
    by_num (pos zero) n h = absurd (n refl)
    by_num (pos (suc m)) n h = refl
    by_num (negsuc m) n h = absurd (h (Prim.omega (arith, ints)))

-- what a sign says of x
abbrev pub IsSign : Sign → Fraction → Type 0
IsSign Below x = x <ℚ whole (pos 0)
IsSign Zero x = x ≡ whole (pos 0)
IsSign Above x = whole (pos 0) <ℚ x

below_nil : (x : Fraction) → x.num <ℤ pos 0 → x <ℚ whole (pos 0)
unfolding whole
below_nil x h = record { cross = Prim.omega (arith, ints) }

above_nil : (x : Fraction) → pos 0 <ℤ x.num → whole (pos 0) <ℚ x
unfolding whole
above_nil x h = record { cross = Prim.omega (arith, ints) }

-- the sign of x says where it stands against 0
pub sign_of_is : (x : Fraction) (s : Sign) → s ≡ sign_of x → IsSign s x
unfolding sign_of
sign_of_is x s e = subst (λ t. IsSign t x) (sym e) (by_num x.num refl)
  where
    by_num : (n : ℤ) → x.num ≡ n → IsSign (sign_of_int n) x
    by_num (pos zero) f = same_value x (whole (pos 0)) x.num x.den x.above (itself x) (zero_is x.num x.den f)
    by_num (pos (suc n)) f = above_nil x (subst (λ t. pos 0 <ℤ t) (sym f) (Prim.omega (arith, ints)))
    by_num (negsuc n) f = below_nil x (subst (λ t. t <ℤ pos 0) (sym f) (Prim.omega (arith, ints)))

sign_of-nil : sign_of (whole (pos 0)) ≡ Zero
unfolding sign_of whole
sign_of-nil = refl

-- a number whose sign is another is not 0
pub not_nil_by_sign : (x : Fraction) (s : Sign) → s ≡ sign_of x → ¬ (s ≡ Zero) → ¬ (x ≡ whole (pos 0))
not_nil_by_sign x s e n f = n (e ∙ ap sign_of f ∙ sign_of-nil)

-- ---- absolute values
-- a number at or above 0 is its own absolute value
pub abs_above : (x : Fraction) → whole (pos 0) ≤ℚ x → abs_ℚ x ≡ x
unfolding abs_ℚ
abs_above x h = by_sign (sign_of x) (sign_of_is x (sign_of x) refl)
  where
    by_sign : (s : Sign) → IsSign s x → abs_by s x ≡ x
    by_sign Below p = absurd (<ℚ-not-≤ℚ x (whole (pos 0)) p h)
    by_sign Zero p = refl
    by_sign Above p = refl

-- that of a number at or below 0 is its opposite
pub abs_below : (x : Fraction) → x ≤ℚ whole (pos 0) → abs_ℚ x ≡ neg_ℚ x
unfolding abs_ℚ
abs_below x h = by_sign (sign_of x) (sign_of_is x (sign_of x) refl)
  where
    by_sign : (s : Sign) → IsSign s x → abs_by s x ≡ neg_ℚ x
    by_sign Below p = refl
    by_sign Zero p = by_ring1 ring_ℚ (x ∷ []) (at 0) (pneg (at 0)) (pone ⊕ pone) (at 0) pnil p refl
    by_sign Above p = absurd (<ℚ-not-≤ℚ (whole (pos 0)) x p h)

-- a number and its opposite are of one size
pub abs_opposite : (x : Fraction) → abs_ℚ (neg_ℚ x) ≡ abs_ℚ x
abs_opposite x = elim (≤ℚ-or-<ℚ x (whole (pos 0))) [
  | inl below ↦ abs_above (neg_ℚ x) (by_le1 (x ∷ []) pnil (pneg (at 0)) pone (at 0) pnil NonNeg-one below refl) ∙ sym (abs_below x below)
  | inr above ↦ let least = <ℚ-≤ℚ (whole (pos 0)) x above in
      abs_below (neg_ℚ x) (by_le1 (x ∷ []) (pneg (at 0)) pnil pone pnil (at 0) NonNeg-one least refl)
      ∙ by_ring ring_ℚ (x ∷ []) (pneg (pneg (at 0))) (at 0) refl ∙ sym (abs_above x least)
]

-- a number between a bound and its opposite is of no greater size
pub abs_within : (x most : Fraction) → neg_ℚ most ≤ℚ x → x ≤ℚ most → abs_ℚ x ≤ℚ most
abs_within x most low high = elim (≤ℚ-or-<ℚ x (whole (pos 0))) [
  | inl below ↦ subst (λ t. t ≤ℚ most) (sym (abs_below x below)) (opposite_most most x low)
  | inr above ↦ subst (λ t. t ≤ℚ most) (sym (abs_above x (<ℚ-≤ℚ (whole (pos 0)) x above))) high
]

-- ---- parts above 0
pub part_at_least : (x : Fraction) → whole (pos 0) ≤ℚ x → part_above x ≡ x
part_at_least x h = by_sign (sign_of x) (sign_of_is x (sign_of x) refl)
  where
    by_sign : (s : Sign) → IsSign s x → where_above s x ≡ x
    by_sign Below p = absurd (<ℚ-not-≤ℚ x (whole (pos 0)) p h)
    by_sign Zero p = sym p
    by_sign Above p = refl

pub part_at_most : (x : Fraction) → x ≤ℚ whole (pos 0) → part_above x ≡ whole (pos 0)
part_at_most x h = by_sign (sign_of x) (sign_of_is x (sign_of x) refl)
  where
    by_sign : (s : Sign) → IsSign s x → where_above s x ≡ whole (pos 0)
    by_sign Below p = refl
    by_sign Zero p = refl
    by_sign Above p = absurd (<ℚ-not-≤ℚ (whole (pos 0)) x p h)

-- a part is no less than 0, and no less than the number
pub part_least : (x : Fraction) → (whole (pos 0) ≤ℚ part_above x) × (x ≤ℚ part_above x)
part_least x = by_sign (sign_of x) (sign_of_is x (sign_of x) refl)
  where
    by_sign : (s : Sign) → IsSign s x → (whole (pos 0) ≤ℚ where_above s x) × (x ≤ℚ where_above s x)
    by_sign Below p = (≤ℚ_refl (whole (pos 0)), <ℚ-≤ℚ x (whole (pos 0)) p)
    by_sign Zero p = (≤ℚ_refl (whole (pos 0)), subst (λ t. x ≤ℚ t) p (≤ℚ_refl x))
    by_sign Above p = (<ℚ-≤ℚ (whole (pos 0)) x p, ≤ℚ_refl x)

-- by how much an absolute value is above what is at least 0: the number or its opposite is above it, and not both
pub part_of_abs : (x most : Fraction) → whole (pos 0) ≤ℚ most → part_above (abs_ℚ x -ℚ most) ≡ part_above (x -ℚ most) +ℚ part_above (neg_ℚ x -ℚ most)
part_of_abs x most least = elim (≤ℚ-or-<ℚ x (whole (pos 0))) [
  | inl below ↦ ap (λ t. part_above (t -ℚ most)) (abs_below x below)
      ∙ by_ring ring_ℚ (part_above (neg_ℚ x -ℚ most) ∷ []) (at 0) (pnil ⊕ at 0) refl
      ∙ ap (λ t. t +ℚ part_above (neg_ℚ x -ℚ most)) (sym (part_at_most (x -ℚ most) (by_le2 (x ∷ most ∷ []) (at 0 ⊕ pneg (at 1)) pnil pone (at 0) pnil pone pnil (at 1) NonNeg-one below NonNeg-one least refl)))
  | inr above ↦ ap (λ t. part_above (t -ℚ most)) (abs_above x (<ℚ-≤ℚ (whole (pos 0)) x above))
      ∙ by_ring ring_ℚ (part_above (x -ℚ most) ∷ []) (at 0) (at 0 ⊕ pnil) refl
      ∙ ap (λ t. part_above (x -ℚ most) +ℚ t)
      (sym (part_at_most (neg_ℚ x -ℚ most) (by_le2 (x ∷ most ∷ []) (pneg (at 0) ⊕ pneg (at 1)) pnil pone pnil (at 0) pone pnil (at 1) NonNeg-one (<ℚ-≤ℚ (whole (pos 0)) x above) NonNeg-one least refl)))
]
