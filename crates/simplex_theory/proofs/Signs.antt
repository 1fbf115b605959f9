-- The laws of opposite_if numbers and of absolute values.
use Rattle.std.specs.Prelude.{◌≡◌, pos, Bool, true, false, [], ◌∷◌, if◌then◌else◌, refl}
use Rattle.std.proofs.Common.{sym, ◌∙◌, subst, subst₂, inl, inr}
use Rattle.fraction_theory.specs.Fraction.{Fraction, whole, ◌+ℚ◌, ◌-ℚ◌, ◌*ℚ◌, neg_ℚ}
use Rattle.fraction_theory.specs.Order.{◌≤ℚ◌, ◌<ℚ◌, NonNeg}
use Rattle.fraction_theory.specs.Signs.{sign_of, abs_by, abs_ℚ}
use Rattle.fraction_theory.specs.declared.Sign.{Sign}
use Rattle.fraction_theory.specs.declared.Sign.TheVariants.{Below, Zero, Above}
use Rattle.fraction_theory.proofs.Ring.{by_ring, by_ring1, at, pnil, pneg, pone, ◌⊕◌, ◌⊗◌}
use Rattle.fraction_theory.proofs.FieldLaws.{ring_ℚ}
use Rattle.fraction_theory.proofs.SignLaws.{sign_of_is, IsSign}
use Rattle.fraction_theory.proofs.OrderLaws.{by_le1, NonNeg_to, NonNeg-one, not-≤ℚ, ≤ℚ-or-<ℚ, <ℚ-≤ℚ, <ℚ-not-≤ℚ, *ℚ-≤ℚ, *ℚ-≤ℚ_neg, *ℚ-<ℚ, ≤ℚ_refl, le_to}
use Rattle.simplex_theory.specs.Steps.{opposite_if}

-- what is not above 0 is at most 0
pub not_above : (x : Fraction) → ¬ (whole (pos 0) <ℚ x) → x ≤ℚ whole (pos 0)
not_above x h = elim (≤ℚ-or-<ℚ x (whole (pos 0))) [ inl p ↦ p | inr p ↦ absurd (h p) ]

-- at most 0, by the opposite
pub nonpositive : (x : Fraction) → x ≤ℚ whole (pos 0) → NonNeg (neg_ℚ x)
nonpositive x h = subst NonNeg (by_ring ring_ℚ (x ∷ []) (pnil ⊕ pneg (at 0)) (pneg (at 0)) refl) (le_to x (whole (pos 0)) h)

pub neg_nonpositive : (x : Fraction) → neg_ℚ x ≤ℚ whole (pos 0) → NonNeg x
neg_nonpositive x h = subst NonNeg (by_ring ring_ℚ (x ∷ []) (pneg (pneg (at 0))) (at 0) refl) (nonpositive (neg_ℚ x) h)

pub neg_at_most : (x : Fraction) → whole (pos 0) ≤ℚ x → neg_ℚ x ≤ℚ whole (pos 0)
neg_at_most x h = by_le1 (x ∷ []) (pneg (at 0)) pnil pone pnil (at 0) NonNeg-one h refl

pub neg_at_least : (x : Fraction) → neg_ℚ x ≤ℚ whole (pos 0) → whole (pos 0) ≤ℚ x
neg_at_least x h = by_le1 (x ∷ []) pnil (at 0) pone (pneg (at 0)) pnil NonNeg-one h refl

-- opposites stand the other way round
pub neg_above : (x y : Fraction) → x <ℚ y → neg_ℚ y <ℚ neg_ℚ x
neg_above x y l = not-≤ℚ (neg_ℚ x) (neg_ℚ y) (λ m. <ℚ-not-≤ℚ x y l (by_le1 (x ∷ y ∷ []) (at 1) (at 0) pone (pneg (at 0)) (pneg (at 1)) NonNeg-one m refl))

pub neg_below : (x y : Fraction) → neg_ℚ x <ℚ neg_ℚ y → y <ℚ x
neg_below x y l = not-≤ℚ x y (λ m. <ℚ-not-≤ℚ (neg_ℚ x) (neg_ℚ y) l (by_le1 (x ∷ y ∷ []) (pneg (at 1)) (pneg (at 0)) pone (at 0) (at 1) NonNeg-one m refl))

pub neg_at : (x y : Fraction) → neg_ℚ x ≤ℚ neg_ℚ y → y ≤ℚ x
neg_at x y l = by_le1 (x ∷ y ∷ []) (at 1) (at 0) pone (pneg (at 0)) (pneg (at 1)) NonNeg-one l refl

-- two signs that are one go
pub signed-twice : (a : Bool) (x : Fraction) → opposite_if a (opposite_if a x) ≡ x
signed-twice true x = by_ring ring_ℚ (x ∷ []) (pneg (pneg (at 0))) (at 0) refl
signed-twice false x = refl

pub signed-both : (a : Bool) (x y : Fraction) → opposite_if a x *ℚ opposite_if a y ≡ x *ℚ y
signed-both true x y = by_ring ring_ℚ (x ∷ y ∷ []) (pneg (at 0) ⊗ pneg (at 1)) (at 0 ⊗ at 1) refl
signed-both false x y = refl

pub signed-times : (a : Bool) (x y : Fraction) → opposite_if a x *ℚ y ≡ opposite_if a (x *ℚ y)
signed-times true x y = by_ring ring_ℚ (x ∷ y ∷ []) (pneg (at 0) ⊗ at 1) (pneg (at 0 ⊗ at 1)) refl
signed-times false x y = refl

pub times-signed : (a : Bool) (x y : Fraction) → x *ℚ opposite_if a y ≡ opposite_if a (x *ℚ y)
times-signed true x y = by_ring ring_ℚ (x ∷ y ∷ []) (at 0 ⊗ pneg (at 1)) (pneg (at 0 ⊗ at 1)) refl
times-signed false x y = refl

pub signed-plus : (a : Bool) (x y : Fraction) → opposite_if a (x +ℚ y) ≡ opposite_if a x +ℚ opposite_if a y
signed-plus true x y = by_ring ring_ℚ (x ∷ y ∷ []) (pneg (at 0 ⊕ at 1)) (pneg (at 0) ⊕ pneg (at 1)) refl
signed-plus false x y = refl

pub signed-minus : (a : Bool) (x y : Fraction) → opposite_if a (x -ℚ y) ≡ opposite_if a x -ℚ opposite_if a y
signed-minus true x y = by_ring ring_ℚ (x ∷ y ∷ []) (pneg (at 0 ⊕ pneg (at 1))) (pneg (at 0) ⊕ pneg (pneg (at 1))) refl
signed-minus false x y = refl

pub signed-nil : (a : Bool) (x : Fraction) → opposite_if a x ≡ whole (pos 0) → x ≡ whole (pos 0)
signed-nil true x e = by_ring1 ring_ℚ (x ∷ []) (at 0) pnil (pneg pone) (pneg (at 0)) pnil e refl
signed-nil false x e = e

-- a number at or above 0 is its own absolute value
pub abs_above : (x : Fraction) → whole (pos 0) ≤ℚ x → abs_ℚ x ≡ x
unfolding abs_ℚ
abs_above x h = by_sign (sign_of x) (sign_of_is x (sign_of x) refl)
  where
    by_sign : (s : Sign) → IsSign s x → abs_by s x ≡ x
    by_sign Below p = absurd (<ℚ-not-≤ℚ x (whole (pos 0)) p h)
    by_sign Zero p = refl
    by_sign Above p = refl

-- the absolute value of a number at or below 0 is its opposite
pub abs_below : (x : Fraction) → x ≤ℚ whole (pos 0) → abs_ℚ x ≡ neg_ℚ x
unfolding abs_ℚ
abs_below x h = by_sign (sign_of x) (sign_of_is x (sign_of x) refl)
  where
    by_sign : (s : Sign) → IsSign s x → abs_by s x ≡ neg_ℚ x
    by_sign Below p = refl
    by_sign Zero p = p ∙ by_ring1 ring_ℚ (x ∷ []) pnil (pneg (at 0)) pone (at 0) pnil p refl
    by_sign Above p = absurd (<ℚ-not-≤ℚ (whole (pos 0)) x p h)

abs_neg : (x : Fraction) → abs_ℚ (neg_ℚ x) ≡ abs_ℚ x
abs_neg x = elim (≤ℚ-or-<ℚ x (whole (pos 0))) [
  | inl p ↦ abs_above (neg_ℚ x) (NonNeg_to (neg_ℚ x) (nonpositive x p)) ∙ sym (abs_below x p)
  | inr p ↦ abs_below (neg_ℚ x) (neg_at_most x (<ℚ-≤ℚ (whole (pos 0)) x p)) ∙ by_ring ring_ℚ (x ∷ []) (pneg (pneg (at 0))) (at 0) refl ∙ sym (abs_above x (<ℚ-≤ℚ (whole (pos 0)) x p))
]

-- a sign changes no absolute value
pub abs_signed : (a : Bool) (x : Fraction) → abs_ℚ (opposite_if a x) ≡ abs_ℚ x
abs_signed true x = abs_neg x
abs_signed false x = refl

pub abs_nil : abs_ℚ (whole (pos 0)) ≡ whole (pos 0)
abs_nil = abs_above (whole (pos 0)) (≤ℚ_refl (whole (pos 0)))

-- Where x, taken by the bound at which f says that a variable stands, is not above 0, x times the variable is greatest there.
pub greatest_at_bound : (f : Bool) (x low high u : Fraction) → ¬ (whole (pos 0) <ℚ opposite_if f x) → low ≤ℚ u → u ≤ℚ high → (x *ℚ u) ≤ℚ (x *ℚ (if f then high else low))
greatest_at_bound true x low high u n p q = *ℚ-≤ℚ x u high (neg_nonpositive x (not_above (neg_ℚ x) n)) q
greatest_at_bound false x low high u n p q = *ℚ-≤ℚ_neg x low u (nonpositive x (not_above x n)) p

-- Where it is above 0, x times the variable is lower beyond that bound.
pub lower_beyond_bound : (f : Bool) (x low high u : Fraction) → whole (pos 0) <ℚ opposite_if f x → (f ≡ true → high <ℚ u) → (f ≡ false → u <ℚ low) → (x *ℚ u) <ℚ (x *ℚ (if f then high else low))
lower_beyond_bound true x low high u h p q = subst₂ ◌<ℚ◌
    (by_ring ring_ℚ (x ∷ u ∷ []) (pneg (pneg (at 0) ⊗ at 1)) (at 0 ⊗ at 1) refl)
    (by_ring ring_ℚ (x ∷ high ∷ []) (pneg (pneg (at 0) ⊗ at 1)) (at 0 ⊗ at 1) refl)
    (neg_above (neg_ℚ x *ℚ high) (neg_ℚ x *ℚ u) (*ℚ-<ℚ (neg_ℚ x) high u h (p refl)))
lower_beyond_bound false x low high u h p q = *ℚ-<ℚ x u low h (q refl)
