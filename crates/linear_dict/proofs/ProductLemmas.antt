-- Products by 0.
use Rattle.std.specs.Prelude.{◌≡◌, pos, [], ◌∷◌, refl}
use Rattle.std.proofs.Common.{ap, sym, ◌∙◌}
use Rattle.fraction_theory.specs.Fraction.{Fraction, whole, ◌+ℚ◌, ◌*ℚ◌, neg_ℚ}
use Rattle.fraction_theory.proofs.FieldLaws.{ring_ℚ}
use Rattle.fraction_theory.proofs.Ring.{by_ring, at, pnil, pmul, pneg, times_nil, nil_times}

-- a number stays where a product beside it has a factor of 0
pub stays_by_right : (x a t : Fraction) → t ≡ whole (pos 0) → x +ℚ a *ℚ t ≡ x
stays_by_right x a t e = ap (λ z. x +ℚ a *ℚ z) e ∙ ap (λ z. x +ℚ z) (times_nil ring_ℚ a) ∙ ring_ℚ.plus_nil x

pub stays_by_left : (x a t : Fraction) → a ≡ whole (pos 0) → x +ℚ a *ℚ t ≡ x
stays_by_left x a t e = ap (λ z. x +ℚ z *ℚ t) e ∙ ap (λ z. x +ℚ z) (nil_times ring_ℚ t) ∙ ring_ℚ.plus_nil x

pub zero_times : (a t : Fraction) → a ≡ whole (pos 0) → a *ℚ t ≡ a
zero_times a t e = ap (λ z. z *ℚ t) e ∙ nil_times ring_ℚ t ∙ sym e

pub times_zero : (a t : Fraction) → t ≡ whole (pos 0) → a *ℚ t ≡ whole (pos 0)
times_zero a t e = ap (λ z. a *ℚ z) e ∙ times_nil ring_ℚ a

-- a zero that is turned and divided
pub zero_divided : (x y : Fraction) → x ≡ whole (pos 0) → neg_ℚ x *ℚ y ≡ x
zero_divided x y e = ap (λ z. neg_ℚ z *ℚ y) e ∙ by_ring ring_ℚ (y ∷ []) (pmul (pneg pnil) (at 0)) pnil refl ∙ sym e
