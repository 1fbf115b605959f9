-- Fractions are a field.
use Rattle.std.specs.Prelude.{◌≡◌, ℕ, ◌*◌, ◌<◌, ℤ, pos, negsuc, ◌+ℤ◌, ◌*ℤ◌, neg_ℤ, refl, List, [], ◌∷◌}
use Rattle.std.proofs.Common.{zero, suc, arith, ap, sym, ◌∙◌, subst}
use Rattle.std.proofs.Math.Nat.{zero-lt-suc, mul-pos, mul_comm}
use Rattle.fraction_theory.proofs.Ring.{Ring, normal, value, by_ring, by_ring1, by_ring2, Poly, at, pnil, pone, padd, pmul, pneg}
use Rattle.fraction_theory.proofs.IntegerLaws.{ring_ℤ}
use Rattle.fraction_theory.specs.Fraction.{Fraction, whole, over, ◌+ℚ◌, ◌*ℚ◌, neg_ℚ, recip_ℚ, turned_over}
use Rattle.fraction_theory.proofs.FractionLaws.{Is, same_value, itself, over_is, plus_is, times_is, neg_is}

-- an identity of whole numbers
abbrev by_ℤ : (vs : List ℤ) (p q : Poly) → normal p ≡ normal q → value ring_ℤ vs p ≡ value ring_ℤ vs q
by_ℤ = by_ring ring_ℤ

-- x stands for n over d as it does for m over e, where n e = m d
restate : (x : Fraction) (n m : ℤ) (d e : ℕ) → n ≡ m → d ≡ e → Is x n d → Is x m e
restate x n m d e p q h = subst (λ t. Is x t e) p (subst (λ t. Is x n t) q h)

pub whole_is : (n : ℤ) → Is (whole n) n 1
unfolding whole
whole_is n = record { cross = refl }

pub +ℚ_assoc : (x y z : Fraction) → (x +ℚ y) +ℚ z ≡ x +ℚ (y +ℚ z)
+ℚ_assoc x y z =
    let l = plus_is (x +ℚ y) z (x.num *ℤ pos y.den +ℤ y.num *ℤ pos x.den) z.num (x.den * y.den) z.den (plus_is x y x.num y.num x.den y.den (itself x) (itself y)) (itself z) in
    let r = plus_is x (y +ℚ z) x.num (y.num *ℤ pos z.den +ℤ z.num *ℤ pos y.den) x.den (y.den * z.den) (itself x) (plus_is y z y.num z.num y.den z.den (itself y) (itself z)) in
    same_value ((x +ℚ y) +ℚ z) (x +ℚ (y +ℚ z)) (x.num *ℤ pos (y.den * z.den) +ℤ (y.num *ℤ pos z.den +ℤ z.num *ℤ pos y.den) *ℤ pos x.den) (x.den * (y.den * z.den)) (mul-pos x.above (mul-pos y.above z.above))
    (restate ((x +ℚ y) +ℚ z) ((x.num *ℤ pos y.den +ℤ y.num *ℤ pos x.den) *ℤ pos z.den +ℤ z.num *ℤ pos (x.den * y.den)) (x.num *ℤ pos (y.den * z.den) +ℤ (y.num *ℤ pos z.den +ℤ z.num *ℤ pos y.den) *ℤ pos x.den) (x.den * y.den * z.den) (x.den * (y.den * z.den))
    (by_ℤ (x.num ∷ pos x.den ∷ y.num ∷ pos y.den ∷ z.num ∷ pos z.den ∷ [])
    (padd (pmul (padd (pmul (at 0) (at 3)) (pmul (at 2) (at 1))) (at 5)) (pmul (at 4) (pmul (at 1) (at 3))))
    (padd (pmul (at 0) (pmul (at 3) (at 5))) (pmul (padd (pmul (at 2) (at 5)) (pmul (at 4) (at 3))) (at 1))) refl)
    (Prim.omega arith) l) r

pub +ℚ_comm : (x y : Fraction) → x +ℚ y ≡ y +ℚ x
unfolding ◌+ℚ◌
+ℚ_comm x y = ap (λ t. over t (x.den * y.den)) (by_ℤ ((x.num *ℤ pos y.den) ∷ (y.num *ℤ pos x.den) ∷ []) (padd (at 0) (at 1)) (padd (at 1) (at 0)) refl) ∙ ap (λ t. over (y.num *ℤ pos x.den +ℤ x.num *ℤ pos y.den) t) (mul_comm x.den y.den)

pub +ℚ_nil : (x : Fraction) → x +ℚ whole (pos 0) ≡ x
+ℚ_nil x = same_value (x +ℚ whole (pos 0)) x x.num x.den x.above
    (restate (x +ℚ whole (pos 0)) (x.num *ℤ pos 1 +ℤ pos 0 *ℤ pos x.den) x.num (x.den * 1) x.den
    (by_ℤ (x.num ∷ pos x.den ∷ []) (padd (pmul (at 0) pone) (pmul pnil (at 1))) (at 0) refl) (Prim.omega arith)
    (plus_is x (whole (pos 0)) x.num (pos 0) x.den 1 (itself x) (whole_is (pos 0))))
    (itself x)

pub zero_is : (n : ℤ) (d : ℕ) → n ≡ pos 0 → Is (whole (pos 0)) n d
unfolding whole
zero_is n d e = record { cross = by_ring1 ring_ℤ (pos d ∷ n ∷ []) (pmul pnil (at 0)) (pmul (at 1) pone) (pneg pone) (at 1) pnil e refl }

pub +ℚ_neg : (x : Fraction) → x +ℚ neg_ℚ x ≡ whole (pos 0)
+ℚ_neg x = same_value (x +ℚ neg_ℚ x) (whole (pos 0)) (x.num *ℤ pos x.den +ℤ neg_ℤ x.num *ℤ pos x.den) (x.den * x.den) (mul-pos x.above x.above)
    (plus_is x (neg_ℚ x) x.num (neg_ℤ x.num) x.den x.den (itself x) (neg_is x x.num x.den (itself x)))
    (zero_is (x.num *ℤ pos x.den +ℤ neg_ℤ x.num *ℤ pos x.den) (x.den * x.den) (by_ℤ (x.num ∷ pos x.den ∷ []) (padd (pmul (at 0) (at 1)) (pmul (pneg (at 0)) (at 1))) pnil refl))

pub *ℚ_assoc : (x y z : Fraction) → (x *ℚ y) *ℚ z ≡ x *ℚ (y *ℚ z)
*ℚ_assoc x y z = same_value ((x *ℚ y) *ℚ z) (x *ℚ (y *ℚ z)) (x.num *ℤ (y.num *ℤ z.num)) (x.den * (y.den * z.den)) (mul-pos x.above (mul-pos y.above z.above))
    (restate ((x *ℚ y) *ℚ z) (x.num *ℤ y.num *ℤ z.num) (x.num *ℤ (y.num *ℤ z.num)) (x.den * y.den * z.den) (x.den * (y.den * z.den))
    (by_ℤ (x.num ∷ y.num ∷ z.num ∷ []) (pmul (pmul (at 0) (at 1)) (at 2)) (pmul (at 0) (pmul (at 1) (at 2))) refl) (Prim.omega arith)
    (times_is (x *ℚ y) z (x.num *ℤ y.num) z.num (x.den * y.den) z.den (times_is x y x.num y.num x.den y.den (itself x) (itself y)) (itself z)))
    (times_is x (y *ℚ z) x.num (y.num *ℤ z.num) x.den (y.den * z.den) (itself x) (times_is y z y.num z.num y.den z.den (itself y) (itself z)))

pub *ℚ_comm : (x y : Fraction) → x *ℚ y ≡ y *ℚ x
unfolding ◌*ℚ◌
*ℚ_comm x y = ap (λ t. over t (x.den * y.den)) (by_ℤ (x.num ∷ y.num ∷ []) (pmul (at 0) (at 1)) (pmul (at 1) (at 0)) refl) ∙ ap (λ t. over (y.num *ℤ x.num) t) (mul_comm x.den y.den)

pub *ℚ_one : (x : Fraction) → x *ℚ whole (pos 1) ≡ x
*ℚ_one x = same_value (x *ℚ whole (pos 1)) x x.num x.den x.above
    (restate (x *ℚ whole (pos 1)) (x.num *ℤ pos 1) x.num (x.den * 1) x.den
    (by_ℤ (x.num ∷ []) (pmul (at 0) pone) (at 0) refl) (Prim.omega arith)
    (times_is x (whole (pos 1)) x.num (pos 1) x.den 1 (itself x) (whole_is (pos 1))))
    (itself x)

-- x stands for n over d and for k n over k d
pub widen : (x : Fraction) (n : ℤ) (d k : ℕ) → Is x n d → Is x (n *ℤ pos k) (d * k)
widen x n d k h = record { cross = by_ring1 ring_ℤ (x.num ∷ pos d ∷ pos k ∷ n ∷ pos x.den ∷ []) (pmul (at 0) (pmul (at 1) (at 2))) (pmul (pmul (at 3) (at 2)) (at 4)) (at 2) (pmul (at 0) (at 1)) (pmul (at 3) (at 4)) h.cross refl }

pub *ℚ-+ℚ : (x y z : Fraction) → x *ℚ (y +ℚ z) ≡ x *ℚ y +ℚ x *ℚ z
*ℚ-+ℚ x y z =
    let l = widen (x *ℚ (y +ℚ z)) (x.num *ℤ (y.num *ℤ pos z.den +ℤ z.num *ℤ pos y.den)) (x.den * (y.den * z.den)) x.den (times_is x (y +ℚ z) x.num (y.num *ℤ pos z.den +ℤ z.num *ℤ pos y.den) x.den (y.den * z.den) (itself x) (plus_is y z y.num z.num y.den z.den (itself y) (itself z))) in
    let r = plus_is (x *ℚ y) (x *ℚ z) (x.num *ℤ y.num) (x.num *ℤ z.num) (x.den * y.den) (x.den * z.den) (times_is x y x.num y.num x.den y.den (itself x) (itself y)) (times_is x z x.num z.num x.den z.den (itself x) (itself z)) in
    same_value (x *ℚ (y +ℚ z)) (x *ℚ y +ℚ x *ℚ z) ((x.num *ℤ y.num) *ℤ pos (x.den * z.den) +ℤ (x.num *ℤ z.num) *ℤ pos (x.den * y.den)) (x.den * y.den * (x.den * z.den)) (mul-pos (mul-pos x.above y.above) (mul-pos x.above z.above))
    (restate (x *ℚ (y +ℚ z)) (x.num *ℤ (y.num *ℤ pos z.den +ℤ z.num *ℤ pos y.den) *ℤ pos x.den) ((x.num *ℤ y.num) *ℤ pos (x.den * z.den) +ℤ (x.num *ℤ z.num) *ℤ pos (x.den * y.den)) (x.den * (y.den * z.den) * x.den) (x.den * y.den * (x.den * z.den))
    (by_ℤ (x.num ∷ pos x.den ∷ y.num ∷ pos y.den ∷ z.num ∷ pos z.den ∷ [])
    (pmul (pmul (at 0) (padd (pmul (at 2) (at 5)) (pmul (at 4) (at 3)))) (at 1))
    (padd (pmul (pmul (at 0) (at 2)) (pmul (at 1) (at 5))) (pmul (pmul (at 0) (at 4)) (pmul (at 1) (at 3)))) refl)
    (Prim.omega arith) l) r

-- the ring of fractions
abbrev pub ring_ℚ : Ring Fraction
ring_ℚ = record {
  nil = whole (pos 0);
  one = whole (pos 1);
  plus = ◌+ℚ◌;
  times = ◌*ℚ◌;
  neg = neg_ℚ;
  plus_assoc = +ℚ_assoc;
  plus_comm = +ℚ_comm;
  plus_nil = +ℚ_nil;
  plus_neg = +ℚ_neg;
  times_assoc = *ℚ_assoc;
  times_comm = *ℚ_comm;
  times_one = *ℚ_one;
  times_plus = *ℚ-+ℚ;
}

pub one_is : (n : ℤ) (d : ℕ) → n ≡ pos d → Is (whole (pos 1)) n d
unfolding whole
one_is n d e = record { cross = by_ring1 ring_ℤ (pos d ∷ n ∷ []) (pmul pone (at 0)) (pmul (at 1) pone) (pneg pone) (at 1) (at 0) e refl }

recip_at : (x : Fraction) (n : ℤ) → x.num ≡ n → ¬ (n ≡ pos 0) → x *ℚ turned_over n x.den ≡ whole (pos 1)
recip_at x (pos zero) e h = absurd (h refl)
recip_at x (pos (suc n)) e h = same_value (x *ℚ over (pos x.den) (suc n)) (whole (pos 1)) (x.num *ℤ pos x.den) (x.den * suc n) (mul-pos x.above (zero-lt-suc n))
    (times_is x (over (pos x.den) (suc n)) x.num (pos x.den) x.den (suc n) (itself x) (over_is (pos x.den) (suc n) (zero-lt-suc n)))
    (one_is (x.num *ℤ pos x.den) (x.den * suc n) (ap (λ t. t *ℤ pos x.den) e ∙ ap pos (Prim.omega arith)))
recip_at x (negsuc n) e h = same_value (x *ℚ over (neg_ℤ (pos x.den)) (suc n)) (whole (pos 1)) (x.num *ℤ neg_ℤ (pos x.den)) (x.den * suc n) (mul-pos x.above (zero-lt-suc n))
    (times_is x (over (neg_ℤ (pos x.den)) (suc n)) x.num (neg_ℤ (pos x.den)) x.den (suc n) (itself x) (over_is (neg_ℤ (pos x.den)) (suc n) (zero-lt-suc n)))
    (one_is (x.num *ℤ neg_ℤ (pos x.den)) (x.den * suc n) (ap (λ t. t *ℤ neg_ℤ (pos x.den)) e ∙ by_ring ring_ℤ (pos (suc n) ∷ pos x.den ∷ []) (pmul (pneg (at 0)) (pneg (at 1))) (pmul (at 1) (at 0)) refl))

-- x times its inverse
pub *ℚ-recip : (x : Fraction) → ¬ (x ≡ whole (pos 0)) → x *ℚ recip_ℚ x ≡ whole (pos 1)
unfolding recip_ℚ
*ℚ-recip x h = recip_at x x.num refl (λ e. h (same_value x (whole (pos 0)) x.num x.den x.above (itself x) (zero_is x.num x.den e)))

-- the only number that times x is 1
pub recip_unique : (x v : Fraction) → ¬ (x ≡ whole (pos 0)) → x.num *ℤ v.num ≡ pos (x.den * v.den) → v ≡ recip_ℚ x
recip_unique x v n e =
    let one : x *ℚ v ≡ whole (pos 1) = same_value (x *ℚ v) (whole (pos 1)) (x.num *ℤ v.num) (x.den * v.den) (mul-pos x.above v.above) (times_is x v x.num v.num x.den v.den (itself x) (itself v)) (one_is (x.num *ℤ v.num) (x.den * v.den) e) in
    by_ring2 ring_ℚ (x ∷ v ∷ recip_ℚ x ∷ []) (at 1) (at 2) (at 2) (pmul (at 0) (at 1)) pone (pneg (at 1)) (pmul (at 0) (at 2)) pone one (*ℚ-recip x n) refl

-- whole numbers
pub whole-+ℚ : (m n : ℤ) → whole (m +ℤ n) ≡ whole m +ℚ whole n
whole-+ℚ m n = same_value (whole (m +ℤ n)) (whole m +ℚ whole n) (m *ℤ pos 1 +ℤ n *ℤ pos 1) (1 * 1) (zero-lt-suc 0)
    (restate (whole (m +ℤ n)) (m +ℤ n) (m *ℤ pos 1 +ℤ n *ℤ pos 1) 1 (1 * 1) (by_ring ring_ℤ (m ∷ n ∷ []) (padd (at 0) (at 1)) (padd (pmul (at 0) pone) (pmul (at 1) pone)) refl) refl (whole_is (m +ℤ n)))
    (plus_is (whole m) (whole n) m n 1 1 (whole_is m) (whole_is n))

pub whole-*ℚ : (m n : ℤ) → whole (m *ℤ n) ≡ whole m *ℚ whole n
whole-*ℚ m n = same_value (whole (m *ℤ n)) (whole m *ℚ whole n) (m *ℤ n) 1 (zero-lt-suc 0) (whole_is (m *ℤ n)) (times_is (whole m) (whole n) m n 1 1 (whole_is m) (whole_is n))

pub whole-neg : (n : ℤ) → whole (neg_ℤ n) ≡ neg_ℚ (whole n)
whole-neg n = same_value (whole (neg_ℤ n)) (neg_ℚ (whole n)) (neg_ℤ n) 1 (zero-lt-suc 0) (whole_is (neg_ℤ n)) (neg_is (whole n) n 1 (whole_is n))

pub over-one : (n : ℤ) → over n 1 ≡ whole n
over-one n = same_value (over n 1) (whole n) n 1 (zero-lt-suc 0) (over_is n 1 (zero-lt-suc 0)) (whole_is n)

-- fractions with equal cross products are one
pub over-same : (a c : ℤ) (b d : ℕ) → 0 < b → 0 < d → a *ℤ pos d ≡ c *ℤ pos b → over a b ≡ over c d
over-same a c b d hb hd e = same_value (over a b) (over c d) (a *ℤ pos d) (b * d) (mul-pos hb hd)
    (widen (over a b) a b d (over_is a b hb))
    (restate (over c d) (c *ℤ pos b) (a *ℤ pos d) (d * b) (b * d) (sym e) (mul_comm d b) (widen (over c d) c d b (over_is c d hd)))
