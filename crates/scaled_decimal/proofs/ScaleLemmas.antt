-- Integers times natural numbers, and when two quotients are one fraction.
use Rattle.std.specs.Prelude.{◌≡◌, ℕ, ◌*◌, ◌/◌, ◌<◌, ℤ, pos, negsuc, ◌*ℤ◌, refl, unsigned_abs, Bool, true, false}
use Rattle.std.proofs.Common.{zero, suc, arith, ap, sym, subst, ◌∙◌}
use Rattle.std.proofs.Math.IntN.{neg_ℤ}
use Rattle.std.proofs.Math.Nat.{mul_assoc, mul_comm, zero-mul, mul-pos, mul-div_cancel}
use Rattle.fraction_theory.specs.Fraction.{Fraction, over}
use Rattle.fraction_theory.proofs.FractionLaws.{over_is, Is, same_value}
use Rattle.fraction_theory.specs.declared.Sign.TheVariants.{Below, Above}
use Rattle.scaled_decimal.specs.Decimal.{with_sign}
use Rattle.fraction_theory.specs.Signs.{sign_of_int}

neg_times : (k b : ℕ) → neg_ℤ (pos k) *ℤ pos b ≡ neg_ℤ (pos (k * b))
neg_times zero b = Prim.rw (zero-mul b) refl
neg_times (suc k) b = refl

scale_scale : (x : ℤ) (a b : ℕ) → (x *ℤ pos a) *ℤ pos b ≡ x *ℤ pos (a * b)
scale_scale (pos n) a b = ap pos (mul_assoc n a b)
scale_scale (negsuc n) a b = neg_times (suc n * a) b ∙ ap (λ t. neg_ℤ (pos t)) (mul_assoc (suc n) a b)

pub scale_comm : (x : ℤ) (a b : ℕ) → (x *ℤ pos a) *ℤ pos b ≡ (x *ℤ pos b) *ℤ pos a
scale_comm x a b = scale_scale x a b ∙ (ap (λ t. x *ℤ pos t) (mul_comm a b) ∙ sym (scale_scale x b a))

cancel : (a b d : ℕ) → 0 < d → a * d ≡ b * d → a ≡ b
cancel a b d h e = sym (mul-div_cancel a h) ∙ (ap (λ t. t / d) e ∙ mul-div_cancel b h)

neg_not_pos : (k n : ℕ) → 0 < k → neg_ℤ (pos k) ≡ pos n → ⊥
neg_not_pos zero n h e = Prim.omega arith
neg_not_pos (suc k) n h e = Prim.cc

pub abs_neg : (k : ℕ) → unsigned_abs (neg_ℤ (pos k)) ≡ k
abs_neg zero = refl
abs_neg (suc k) = refl

pub scale_cancel : (x y : ℤ) (d : ℕ) → 0 < d → x *ℤ pos d ≡ y *ℤ pos d → x ≡ y
scale_cancel (pos a) (pos b) d h e = let f : a * d ≡ b * d = ap unsigned_abs e in ap pos (cancel a b d h f)
scale_cancel (pos a) (negsuc b) d h e = let p : 0 < suc b = Prim.omega arith in absurd (neg_not_pos (suc b * d) (a * d) (mul-pos p h) (sym e))
scale_cancel (negsuc a) (pos b) d h e = let p : 0 < suc a = Prim.omega arith in absurd (neg_not_pos (suc a * d) (b * d) (mul-pos p h) e)
scale_cancel (negsuc a) (negsuc b) d h e =
    let f : suc a * d ≡ suc b * d = sym (abs_neg (suc a * d)) ∙ (ap unsigned_abs e ∙ abs_neg (suc b * d)) in
    let g : suc a ≡ suc b = cancel (suc a) (suc b) d h f in
    let same : a ≡ b = Prim.omega arith in
    ap negsuc same

-- ---- quotients
pub cross_from_over : (n m : ℤ) (d e : ℕ) → 0 < d → 0 < e → over n d ≡ over m e → n *ℤ pos e ≡ m *ℤ pos d
cross_from_over n m d e p q h =
    let x : Fraction = over n d in
    let one : Is x n d = over_is n d p in
    let other : Is x m e = let P : Fraction → Type 0 = λ t. Is t m e in subst P (sym h) (over_is m e q) in
    scale_cancel (n *ℤ pos e) (m *ℤ pos d) x.den x.above
    (scale_comm n e x.den ∙ (ap (λ t. t *ℤ pos e) (sym one.cross) ∙ (scale_comm x.num d e ∙ (ap (λ t. t *ℤ pos d) other.cross ∙ scale_comm m x.den d))))

pub over_from_cross : (n m : ℤ) (d e : ℕ) → 0 < d → 0 < e → n *ℤ pos e ≡ m *ℤ pos d → over n d ≡ over m e
over_from_cross n m d e p q h =
    let y : Fraction = over m e in
    let is = over_is m e q in
    same_value (over n d) y n d p (over_is n d p) (record {
      cross = scale_cancel (y.num *ℤ pos d) (n *ℤ pos y.den) e q
          (scale_comm y.num d e ∙ (ap (λ t. t *ℤ pos d) is.cross ∙ (scale_comm m y.den d ∙ (ap (λ t. t *ℤ pos y.den) (sym h) ∙ scale_comm n e y.den))));
    })

-- ---- signs and sizes
pub signed_times : (negative : Bool) (a b : ℕ) → with_sign negative a *ℤ pos b ≡ with_sign negative (a * b)
signed_times true a b = neg_times a b
signed_times false a b = refl

pub abs_signed : (negative : Bool) (n : ℕ) → unsigned_abs (with_sign negative n) ≡ n
abs_signed true n = abs_neg n
abs_signed false n = refl

sign_above : (k : ℕ) → 0 < k → sign_of_int (pos k) ≡ Above
sign_above zero h = absurd (Prim.omega arith)
sign_above (suc k) h = refl

sign_below : (k : ℕ) → 0 < k → sign_of_int (neg_ℤ (pos k)) ≡ Below
sign_below zero h = absurd (Prim.omega arith)
sign_below (suc k) h = refl

pub sign_scale : (x : ℤ) (d : ℕ) → 0 < d → sign_of_int (x *ℤ pos d) ≡ sign_of_int x
sign_scale (pos zero) d h = Prim.rw (zero-mul d) refl
sign_scale (pos (suc n)) d h = let p : 0 < suc n = Prim.omega arith in sign_above (suc n * d) (mul-pos p h)
sign_scale (negsuc n) d h = let p : 0 < suc n = Prim.omega arith in sign_below (suc n * d) (mul-pos p h)

-- the sign of a quotient is that of the number above the line
pub sign_of_over : (n : ℤ) (d : ℕ) → 0 < d → sign_of_int (over n d).num ≡ sign_of_int n
sign_of_over n d h =
    let x : Fraction = over n d in
    sym (sign_scale x.num d h) ∙ (ap sign_of_int (over_is n d h).cross ∙ sign_scale n x.den x.above)
