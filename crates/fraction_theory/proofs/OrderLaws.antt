-- The laws of the order of fractions.
use Rattle.std.specs.Prelude.{◌≡◌, ℕ, ◌*◌, ◌<◌, ℤ, pos, ◌+ℤ◌, ◌*ℤ◌, ◌≤ℤ◌, neg_ℤ, refl, List, [], ◌∷◌, ◌⊎◌}
use Rattle.std.proofs.Common.{arith, sym, subst, subst₂, inl, inr}
use Rattle.std.proofs.Math.Nat.{mul-pos}
use Rattle.std.proofs.lemmas.Int.{ints, by_lt_z}
use Rattle.fraction_theory.proofs.Ring.{by_ring, by_ring1, by_ring2, ◌⊕◌, ◌⊗◌, value, normal, Poly, at, pnil, pone, padd, pmul, pneg}
use Rattle.fraction_theory.proofs.IntegerLaws.{ring_ℤ, zero≤-cancel, zero≤-times, zero≤*ℤ, zero≤+ℤ, le_by_difference, difference_by_le, zero≤_or, zero≤_antisym}
use Rattle.fraction_theory.specs.Fraction.{Fraction, whole, ◌+ℚ◌, ◌-ℚ◌, ◌*ℚ◌, neg_ℚ, recip_ℚ}
use Rattle.fraction_theory.specs.Order.{◌≤ℚ◌, ◌<ℚ◌, NonNeg}
use Rattle.fraction_theory.proofs.FractionLaws.{Is, same_value, itself, plus_is, times_is, neg_is}
use Rattle.fraction_theory.proofs.FieldLaws.{ring_ℚ, zero_is, *ℚ-recip}

NonNeg_by : (x : Fraction) (n : ℤ) (d : ℕ) → 0 < d → Is x n d → pos 0 ≤ℤ n → NonNeg x
NonNeg_by x n d h p q = record { sign = zero≤-cancel x.num d h (subst (λ t. pos 0 ≤ℤ t) (sym p.cross) (zero≤-times n x.den q)) }

NonNeg_out : (x : Fraction) (n : ℤ) (d : ℕ) → 0 < d → Is x n d → NonNeg x → pos 0 ≤ℤ n
NonNeg_out x n d h p q = zero≤-cancel n x.den x.above (subst (λ t. pos 0 ≤ℤ t) p.cross (zero≤-times x.num d q.sign))

difference_is : (x y : Fraction) → Is (y -ℚ x) (y.num *ℤ pos x.den +ℤ neg_ℤ x.num *ℤ pos y.den) (y.den * x.den)
difference_is x y = plus_is y (neg_ℚ x) y.num (neg_ℤ x.num) y.den x.den (itself y) (neg_is x x.num x.den (itself x))

neg-times : (x y : ℤ) → neg_ℤ x *ℤ y ≡ neg_ℤ (x *ℤ y)
neg-times x y = by_ring ring_ℤ (x ∷ y ∷ []) (pmul (pneg (at 0)) (at 1)) (pneg (pmul (at 0) (at 1))) refl

-- x is at most y exactly where y - x is 0 or above
pub le_from : (x y : Fraction) → NonNeg (y -ℚ x) → x ≤ℚ y
le_from x y p = record {
  cross = le_by_difference (x.num *ℤ pos y.den) (y.num *ℤ pos x.den)
      (subst (λ t. pos 0 ≤ℤ (y.num *ℤ pos x.den +ℤ t)) (neg-times x.num (pos y.den)) (NonNeg_out (y -ℚ x) (y.num *ℤ pos x.den +ℤ neg_ℤ x.num *ℤ pos y.den) (y.den * x.den) (mul-pos y.above x.above) (difference_is x y) p));
}

pub le_to : (x y : Fraction) → x ≤ℚ y → NonNeg (y -ℚ x)
le_to x y p = NonNeg_by (y -ℚ x) (y.num *ℤ pos x.den +ℤ neg_ℤ x.num *ℤ pos y.den) (y.den * x.den) (mul-pos y.above x.above) (difference_is x y)
    (subst (λ t. pos 0 ≤ℤ (y.num *ℤ pos x.den +ℤ t)) (sym (neg-times x.num (pos y.den))) (difference_by_le (x.num *ℤ pos y.den) (y.num *ℤ pos x.den) p.cross))

pub NonNeg-plus : (x y : Fraction) → NonNeg x → NonNeg y → NonNeg (x +ℚ y)
NonNeg-plus x y p q = NonNeg_by (x +ℚ y) (x.num *ℤ pos y.den +ℤ y.num *ℤ pos x.den) (x.den * y.den) (mul-pos x.above y.above) (plus_is x y x.num y.num x.den y.den (itself x) (itself y))
    (zero≤+ℤ (x.num *ℤ pos y.den) (y.num *ℤ pos x.den) (zero≤-times x.num y.den p.sign) (zero≤-times y.num x.den q.sign))

pub NonNeg-times : (x y : Fraction) → NonNeg x → NonNeg y → NonNeg (x *ℚ y)
NonNeg-times x y p q = NonNeg_by (x *ℚ y) (x.num *ℤ y.num) (x.den * y.den) (mul-pos x.above y.above) (times_is x y x.num y.num x.den y.den (itself x) (itself y))
    (zero≤*ℤ x.num y.num p.sign q.sign)

pub NonNeg-nil : NonNeg (whole (pos 0))
unfolding whole
NonNeg-nil = record { sign = Prim.omega (arith, ints) }

pub NonNeg-one : NonNeg (whole (pos 1))
unfolding whole
NonNeg-one = record { sign = Prim.omega (arith, ints) }

pub NonNeg_or : (x : Fraction) → NonNeg x ⊎ NonNeg (neg_ℚ x)
unfolding neg_ℚ
NonNeg_or x = elim (zero≤_or x.num) [ inl p ↦ inl (record { sign = p }) | inr p ↦ inr (record { sign = p }) ]

pub NonNeg_antisym : (x : Fraction) → NonNeg x → NonNeg (neg_ℚ x) → x ≡ whole (pos 0)
unfolding neg_ℚ
NonNeg_antisym x p q = same_value x (whole (pos 0)) x.num x.den x.above (itself x) (zero_is x.num x.den (zero≤_antisym x.num p.sign q.sign))

-- an inequality: q - p has the normal form of r, which is 0 or above
pub by_rest : (vs : List Fraction) (p q r : Poly) → NonNeg (value ring_ℚ vs r) → normal (padd q (pneg p)) ≡ normal r → value ring_ℚ vs p ≤ℚ value ring_ℚ vs q
by_rest vs p q r h e = le_from (value ring_ℚ vs p) (value ring_ℚ vs q) (subst NonNeg (sym (by_ring ring_ℚ vs (padd q (pneg p)) r e)) h)

pub ≤ℚ_refl : (x : Fraction) → x ≤ℚ x
≤ℚ_refl x = by_rest (x ∷ []) (at 0) (at 0) pnil NonNeg-nil refl

pub ≤ℚ_trans : (x y z : Fraction) → x ≤ℚ y → y ≤ℚ z → x ≤ℚ z
≤ℚ_trans x y z p q = by_rest (x ∷ y ∷ z ∷ []) (at 0) (at 2) (padd (padd (at 1) (pneg (at 0))) (padd (at 2) (pneg (at 1)))) (NonNeg-plus (y -ℚ x) (z -ℚ y) (le_to x y p) (le_to y z q)) refl

pub ≤ℚ_antisym : (x y : Fraction) → x ≤ℚ y → y ≤ℚ x → x ≡ y
≤ℚ_antisym x y p q =
    by_ring1 ring_ℚ (x ∷ y ∷ []) (at 0) (at 1) (pneg pone) (padd (at 1) (pneg (at 0))) pnil
    (NonNeg_antisym (y -ℚ x) (le_to x y p) (subst NonNeg (by_ring ring_ℚ (x ∷ y ∷ []) (padd (at 0) (pneg (at 1))) (pneg (padd (at 1) (pneg (at 0)))) refl) (le_to y x q))) refl

pub ≤ℚ_total : (x y : Fraction) → (x ≤ℚ y) ⊎ (y ≤ℚ x)
≤ℚ_total x y = elim (NonNeg_or (y -ℚ x)) [
  | inl p ↦ inl (le_from x y p)
  | inr p ↦ inr (le_from y x (subst NonNeg (by_ring ring_ℚ (x ∷ y ∷ []) (pneg (padd (at 1) (pneg (at 0)))) (padd (at 0) (pneg (at 1))) refl) p))
]

pub +ℚ-≤ℚ : (x y u v : Fraction) → x ≤ℚ y → u ≤ℚ v → (x +ℚ u) ≤ℚ (y +ℚ v)
+ℚ-≤ℚ x y u v p q = by_rest (x ∷ y ∷ u ∷ v ∷ []) (padd (at 0) (at 2)) (padd (at 1) (at 3)) (padd (padd (at 1) (pneg (at 0))) (padd (at 3) (pneg (at 2)))) (NonNeg-plus (y -ℚ x) (v -ℚ u) (le_to x y p) (le_to u v q)) refl

pub *ℚ-≤ℚ : (k x y : Fraction) → NonNeg k → x ≤ℚ y → (k *ℚ x) ≤ℚ (k *ℚ y)
*ℚ-≤ℚ k x y h p = by_rest (k ∷ x ∷ y ∷ []) (pmul (at 0) (at 1)) (pmul (at 0) (at 2)) (pmul (at 0) (padd (at 2) (pneg (at 1)))) (NonNeg-times k (y -ℚ x) h (le_to x y p)) refl

pub ≤ℚ-or-<ℚ : (x y : Fraction) → (x ≤ℚ y) ⊎ (y <ℚ x)
≤ℚ-or-<ℚ x y = by_lt_z (y.num *ℤ pos x.den) (x.num *ℤ pos y.den) (λ h. inr (record { cross = h })) (λ h. inl (record { cross = h }))

pub <ℚ-not-≤ℚ : (x y : Fraction) → x <ℚ y → ¬ (y ≤ℚ x)
<ℚ-not-≤ℚ x y p q = Prim.omega (arith, ints, p.cross, q.cross)

pub <ℚ-≤ℚ : (x y : Fraction) → x <ℚ y → x ≤ℚ y
<ℚ-≤ℚ x y p = record { cross = Prim.omega (arith, ints, p.cross) }

pub not-≤ℚ : (x y : Fraction) → ¬ (x ≤ℚ y) → y <ℚ x
not-≤ℚ x y p = elim (≤ℚ-or-<ℚ x y) [ inl q ↦ absurd (p q) | inr q ↦ q ]

pub <ℚ_irrefl : (x : Fraction) → ¬ (x <ℚ x)
<ℚ_irrefl x p = Prim.omega (arith, ints, p.cross)

pub ≤ℚ_of_same : (x y : Fraction) → x ≡ y → x ≤ℚ y
≤ℚ_of_same x y e = subst (λ t. x ≤ℚ t) e (≤ℚ_refl x)

-- an inequality from another, l ≤ r, taken k times: q - p and k (r - l) have one normal form
pub by_le1 : (vs : List Fraction) (p q k l r : Poly) → NonNeg (value ring_ℚ vs k) → value ring_ℚ vs l ≤ℚ value ring_ℚ vs r
    → normal (padd q (pneg p)) ≡ normal (pmul k (padd r (pneg l))) → value ring_ℚ vs p ≤ℚ value ring_ℚ vs q
by_le1 vs p q k l r hk h e = by_rest vs p q (pmul k (padd r (pneg l))) (NonNeg-times (value ring_ℚ vs k) (value ring_ℚ vs r -ℚ value ring_ℚ vs l) hk (le_to (value ring_ℚ vs l) (value ring_ℚ vs r) h)) e

-- opposites in the other order
pub opposite_most : (most x : Fraction) → neg_ℚ most ≤ℚ x → neg_ℚ x ≤ℚ most
opposite_most most x h = by_le1 (most ∷ x ∷ []) (pneg (at 1)) (at 0) pone (pneg (at 0)) (at 1) NonNeg-one h refl

-- from two others
pub by_le2 : (vs : List Fraction) (p q k l r k' l' r' : Poly) → NonNeg (value ring_ℚ vs k) → value ring_ℚ vs l ≤ℚ value ring_ℚ vs r → NonNeg (value ring_ℚ vs k') → value ring_ℚ vs l' ≤ℚ value ring_ℚ vs r'
    → normal (padd q (pneg p)) ≡ normal (padd (pmul k (padd r (pneg l))) (pmul k' (padd r' (pneg l')))) → value ring_ℚ vs p ≤ℚ value ring_ℚ vs q
by_le2 vs p q k l r k' l' r' hk h hk' h' e = by_rest vs p q (padd (pmul k (padd r (pneg l))) (pmul k' (padd r' (pneg l'))))
    (NonNeg-plus (value ring_ℚ vs k *ℚ (value ring_ℚ vs r -ℚ value ring_ℚ vs l)) (value ring_ℚ vs k' *ℚ (value ring_ℚ vs r' -ℚ value ring_ℚ vs l'))
    (NonNeg-times (value ring_ℚ vs k) (value ring_ℚ vs r -ℚ value ring_ℚ vs l) hk (le_to (value ring_ℚ vs l) (value ring_ℚ vs r) h))
    (NonNeg-times (value ring_ℚ vs k') (value ring_ℚ vs r' -ℚ value ring_ℚ vs l') hk' (le_to (value ring_ℚ vs l') (value ring_ℚ vs r') h'))) e

-- strictly below
pub <ℚ_trans : (x y z : Fraction) → x <ℚ y → y <ℚ z → x <ℚ z
<ℚ_trans x y z p q = not-≤ℚ z x (λ h. <ℚ-not-≤ℚ y z q (≤ℚ_trans z x y h (<ℚ-≤ℚ x y p)))

pub <ℚ-≤ℚ_trans : (x y z : Fraction) → x <ℚ y → y ≤ℚ z → x <ℚ z
<ℚ-≤ℚ_trans x y z p q = not-≤ℚ z x (λ h. <ℚ-not-≤ℚ x y p (≤ℚ_trans y z x q h))

pub ≤ℚ-<ℚ_trans : (x y z : Fraction) → x ≤ℚ y → y <ℚ z → x <ℚ z
≤ℚ-<ℚ_trans x y z p q = not-≤ℚ z x (λ h. <ℚ-not-≤ℚ y z q (≤ℚ_trans z x y h p))

-- below, equal or above
pub three_ways : (x y : Fraction) → (x <ℚ y) ⊎ (x ≡ y) ⊎ (y <ℚ x)
three_ways x y = elim (≤ℚ-or-<ℚ x y) [
  | inr h ↦ inr (inr h)
  | inl h ↦ elim (≤ℚ-or-<ℚ y x) [ inr k ↦ inl k | inl k ↦ inr (inl (≤ℚ_antisym x y h k)) ]
]

pub +ℚ-<ℚ : (x y u v : Fraction) → x <ℚ y → u ≤ℚ v → (x +ℚ u) <ℚ (y +ℚ v)
+ℚ-<ℚ x y u v p q = not-≤ℚ (y +ℚ v) (x +ℚ u)
    (λ h. <ℚ-not-≤ℚ x y p (by_le2 (x ∷ y ∷ u ∷ v ∷ []) (at 1) (at 0) pone (at 1 ⊕ at 3) (at 0 ⊕ at 2) pone (at 2) (at 3) NonNeg-one h NonNeg-one q refl))

-- 0 or above, as an inequality
pub NonNeg_from : (x : Fraction) → whole (pos 0) ≤ℚ x → NonNeg x
NonNeg_from x h = subst NonNeg (by_ring ring_ℚ (x ∷ []) (at 0 ⊕ pneg pnil) (at 0) refl) (le_to (whole (pos 0)) x h)

pub NonNeg_to : (x : Fraction) → NonNeg x → whole (pos 0) ≤ℚ x
NonNeg_to x h = by_rest (x ∷ []) pnil (at 0) (at 0) h refl

-- products with a sign
pub NonNeg-times_neg : (x y : Fraction) → NonNeg x → NonNeg (neg_ℚ y) → NonNeg (neg_ℚ (x *ℚ y))
NonNeg-times_neg x y p q = subst NonNeg (by_ring ring_ℚ (x ∷ y ∷ []) (at 0 ⊗ pneg (at 1)) (pneg (at 0 ⊗ at 1)) refl) (NonNeg-times x (neg_ℚ y) p q)

pub *ℚ-≤ℚ_neg : (k x y : Fraction) → NonNeg (neg_ℚ k) → x ≤ℚ y → (k *ℚ y) ≤ℚ (k *ℚ x)
*ℚ-≤ℚ_neg k x y h p = by_le1 (k ∷ x ∷ y ∷ []) (at 0 ⊗ at 2) (at 0 ⊗ at 1) (pneg (at 0)) (at 1) (at 2) h p refl

not_nil : (x : Fraction) → whole (pos 0) <ℚ x → ¬ (x ≡ whole (pos 0))
not_nil x h e = <ℚ_irrefl x (subst (λ t. t <ℚ x) (sym e) h)

minus_one : ¬ (NonNeg (neg_ℚ (whole (pos 1))))
unfolding neg_ℚ whole
minus_one h = Prim.omega (arith, ints, h.sign)

pub NonNeg-recip : (k : Fraction) → whole (pos 0) <ℚ k → NonNeg (recip_ℚ k)
NonNeg-recip k h = elim (NonNeg_or (recip_ℚ k)) [
  | inl p ↦ p
  | inr p ↦ absurd (minus_one (subst (λ t. NonNeg (neg_ℚ t)) (*ℚ-recip k (not_nil k h))
      (subst NonNeg (by_ring ring_ℚ (k ∷ recip_ℚ k ∷ []) (at 0 ⊗ pneg (at 1)) (pneg (at 0 ⊗ at 1)) refl) (NonNeg-times k (neg_ℚ (recip_ℚ k)) (NonNeg_from k (<ℚ-≤ℚ (whole (pos 0)) k h)) p))))
]

-- a factor above 0 is taken away
pub *ℚ-≤ℚ_cancel : (k x y : Fraction) → whole (pos 0) <ℚ k → (k *ℚ x) ≤ℚ (k *ℚ y) → x ≤ℚ y
*ℚ-≤ℚ_cancel k x y hk h =
    let r : Fraction = recip_ℚ k in
    let one : k *ℚ r ≡ whole (pos 1) = *ℚ-recip k (not_nil k hk) in
    let back : (z : Fraction) → r *ℚ (k *ℚ z) ≡ z = λ z. by_ring1 ring_ℚ (k ∷ r ∷ z ∷ []) (at 1 ⊗ (at 0 ⊗ at 2)) (at 2) (at 2) (at 0 ⊗ at 1) pone one refl in
    subst₂ ◌≤ℚ◌ (back x) (back y) (*ℚ-≤ℚ r (k *ℚ x) (k *ℚ y) (NonNeg-recip k hk) h)

pub *ℚ-<ℚ : (k x y : Fraction) → whole (pos 0) <ℚ k → x <ℚ y → (k *ℚ x) <ℚ (k *ℚ y)
*ℚ-<ℚ k x y hk p = not-≤ℚ (k *ℚ y) (k *ℚ x) (λ h. <ℚ-not-≤ℚ x y p (*ℚ-≤ℚ_cancel k y x hk h))

-- a product is 0 only where a factor is
pub *ℚ-nil : (x y : Fraction) → x *ℚ y ≡ whole (pos 0) → (x ≡ whole (pos 0)) ⊎ (y ≡ whole (pos 0))
*ℚ-nil x y e = elim (three_ways x (whole (pos 0))) [
  | inl h ↦ inr (other (λ f. <ℚ_irrefl (whole (pos 0)) (subst (λ t. t <ℚ whole (pos 0)) f h)))
  | inr w ↦ elim w [ inl f ↦ inl f | inr h ↦ inr (other (not_nil x h)) ]
]
  where
    other : ¬ (x ≡ whole (pos 0)) → y ≡ whole (pos 0)
    other n = by_ring2 ring_ℚ (x ∷ y ∷ recip_ℚ x ∷ []) (at 1) pnil (at 2) (at 0 ⊗ at 1) pnil (pneg (at 1)) (at 0 ⊗ at 2) pone e (*ℚ-recip x n) refl

-- whole numbers in their order
pub whole-≤ℚ : (m n : ℤ) → m ≤ℤ n → whole m ≤ℚ whole n
unfolding whole
whole-≤ℚ m n h = record { cross = Prim.omega (arith, ints) }
