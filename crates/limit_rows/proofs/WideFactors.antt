-- The factor of a row fits numbers of 127 bits.
use Rattle.std.specs.Prelude.{◌≡◌, ℕ, ◌+◌, ◌*◌, ◌^◌, ◌<◌, ◌≤◌, ℤ, pos, ◌+ℤ◌, ◌*ℤ◌, [], ◌∷◌, unsigned_abs, refl}
use Rattle.std.proofs.Common.{arith, ap₂, sym, subst, inl, inr, ◌∙◌}
use Rattle.std.proofs.Math.Nat.{mul-pos, mul-le-mul, mul_comm}
use Rattle.std.proofs.lemmas.Int.{ints, unsigned_abs-mul}
use Rattle.fraction_theory.specs.Fraction.{Fraction, over, ◌+ℚ◌, ◌*ℚ◌}
use Rattle.fraction_theory.proofs.Ring.{by_ring, at, padd, pmul}
use Rattle.fraction_theory.proofs.IntegerLaws.{ring_ℤ}
use Rattle.fraction_theory.proofs.FractionLaws.{Is, same_value, over_is, plus_is, times_is}
use Rattle.fraction_theory.proofs.FieldLaws.{widen}
use Rattle.exact_fraction.specs.Passes.{IsTooLarge}
use Rattle.exact_fraction.proofs.Excesses.{over_within}
use Rattle.market_data.specs.Scales.{factor_one, most_factor}

-- a number plus a product of two, all over a, over the square of a
factor_sum : (a : ℕ) → 0 < a → (h l k : ℤ) → over (h *ℤ pos a +ℤ l *ℤ k) (a * a) ≡ over h a +ℚ over l a *ℚ over k a
factor_sum a p h l k =
    let sum : Fraction = over h a +ℚ over l a *ℚ over k a in
    let both = plus_is (over h a) (over l a *ℚ over k a) h (l *ℤ k) a (a * a) (over_is h a p) (times_is (over l a) (over k a) l k a a (over_is l a p) (over_is k a p)) in
    let tops : h *ℤ pos (a * a) +ℤ (l *ℤ k) *ℤ pos a ≡ (h *ℤ pos a +ℤ l *ℤ k) *ℤ pos a =
    by_ring ring_ℤ (h ∷ pos a ∷ l ∷ k ∷ []) (padd (pmul (at 0) (pmul (at 1) (at 1))) (pmul (pmul (at 2) (at 3)) (at 1))) (pmul (padd (pmul (at 0) (at 1)) (pmul (at 2) (at 3))) (at 1)) refl in
    let other : Is sum ((h *ℤ pos a +ℤ l *ℤ k) *ℤ pos a) ((a * a) * a) =
    subst (λ (d : ℕ). Is sum ((h *ℤ pos a +ℤ l *ℤ k) *ℤ pos a) d) (mul_comm a (a * a)) (subst (λ (n : ℤ). Is sum n (a * (a * a))) tops both) in
    same_value (over (h *ℤ pos a +ℤ l *ℤ k) (a * a)) sum ((h *ℤ pos a +ℤ l *ℤ k) *ℤ pos a) ((a * a) * a) (mul-pos (mul-pos p p) p)
    (widen (over (h *ℤ pos a +ℤ l *ℤ k) (a * a)) (h *ℤ pos a +ℤ l *ℤ k) (a * a) a (over_is (h *ℤ pos a +ℤ l *ℤ k) (a * a) (mul-pos p p))) other

-- the size of a product
product_size : (x y : ℤ) (s t : ℕ) → unsigned_abs x ≤ s → unsigned_abs y ≤ t → unsigned_abs (x *ℤ y) ≤ s * t
product_size x y s t p q = subst (λ (n : ℕ). n ≤ s * t) (sym (unsigned_abs-mul x y)) (mul-le-mul p q)

-- the size of a sum
sum_size : (x y : ℤ) → unsigned_abs (x +ℤ y) ≤ unsigned_abs x + unsigned_abs y
sum_size x y = Prim.omega (arith, ints)

-- what is over a number is too large only where its parts are
pub too_large_over : (bound : ℕ) (n : ℤ) (d : ℕ) → 0 < d → unsigned_abs n ≤ bound → d ≤ bound → IsTooLarge bound (over n d) → ⊥
too_large_over bound n d p num den (inl h) = Prim.omega (arith, (over_within n d p).0, num, h)
too_large_over bound n d p num den (inr h) = Prim.omega (arith, (over_within n d p).1, den, h)

pub row_factor_fits : (bound : ℕ) (h l k : ℤ) → 2 ^ 127 ≤ bound + 1 → unsigned_abs h ≤ most_factor → unsigned_abs l ≤ most_factor → unsigned_abs k ≤ most_factor
    → {own gone : Fraction} → own ≡ over h factor_one → gone ≡ over k factor_one → IsTooLarge bound (own +ℚ over l factor_one *ℚ gone) → ⊥
row_factor_fits bound h l k wide hs ls ks own_is gone_is large =
    let own = product_size h (pos factor_one) most_factor factor_one hs (Prim.omega arith) in
    let lost = product_size l k most_factor most_factor ls ks in
    let all = sum_size (h *ℤ pos factor_one) (l *ℤ k) in
    too_large_over bound (h *ℤ pos factor_one +ℤ l *ℤ k) (factor_one * factor_one) (Prim.omega arith) (Prim.omega (arith, own, lost, all, wide)) (Prim.omega (arith, wide))
    (subst (IsTooLarge bound) (ap₂ (λ (a b : Fraction). a +ℚ over l factor_one *ℚ b) own_is gone_is ∙ sym (factor_sum factor_one (Prim.omega arith) h l k)) large)
