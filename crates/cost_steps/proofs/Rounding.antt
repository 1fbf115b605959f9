-- The nearest whole number to a quotient, and whether it is the quotient.
use Rattle.std.specs.Prelude.{◌≡◌, ℕ, ◌+◌, ◌*◌, ◌^◌, ◌<◌, ◌≤◌, ◌↔◌, ◌==◌, IsTrue, ℤ, pos, negsuc, ◌-ℤ◌, ◌*ℤ◌, ◌≤ℤ◌, ◌<ℤ◌, neg_ℤ, unsigned_abs, [], ◌∷◌}
use Rattle.std.proofs.Common.{arith, ap, sym, refl, ◌∙◌, subst, w64, to_z, of_z}
use Rattle.std.proofs.lemmas.Int.{ints, by_lt_z, fits_signed_from_abs, to_z-of_z, to_z_pos}
use Rattle.std.proofs.lemmas.Bool.{eqb-true, eq-eqb}
use Rattle.std.proofs.Math.Nat.{mul-le-mul_right, mul-lt-mul_of_pos_right, le_of_mul-le-mul_left, lt_of_mul-lt-mul_left}
use Rattle.fraction_theory.specs.Fraction.{Fraction, whole, over, unsigned_abs-neg}
use Rattle.fraction_theory.proofs.Ring.{by_ring, at, pneg, ◌⊗◌}
use Rattle.fraction_theory.proofs.IntegerLaws.{ring_ℤ, unsigned_abs-*ℤ, zero≤-cancel, zero≤-times, *ℤ-pos_one}
use Rattle.fraction_theory.proofs.FractionLaws.{Is, over_is, same_value}
use Rattle.exact_fraction.specs.Nearest.{IsNearest}
use Rattle.exact_fraction.proofs.Nearest.{nearest_above, nearest_below}
use Rattle.cost_steps.specs.Rounding.{IsRounded, IsBeyond}

-- ---- by whole numbers
module _ (n : ℤ) (d s : ℕ) (above : 0 < d) (low : 2 * (s * d) ≤ 2 * unsigned_abs n + d) (high : 2 * unsigned_abs n < 2 * (s * d) + d) where
  abbrev x : Fraction
  x = over n d

  cross : x.num *ℤ pos d ≡ n *ℤ pos x.den
  cross = (over_is n d above).cross

  sizes : unsigned_abs x.num * d ≡ unsigned_abs n * x.den
  sizes = sym (unsigned_abs-*ℤ x.num d) ∙ ap unsigned_abs cross ∙ unsigned_abs-*ℤ n x.den

  low_at : 2 * (s * x.den) ≤ 2 * (unsigned_abs x.num * 10 ^ 0) + x.den
  low_at = le_of_mul-le-mul_left (wide s d (unsigned_abs n) (unsigned_abs x.num) x.den sizes (mul-le-mul_right x.den low)) above
    where
      wide : (s d n m e : ℕ) → m * d ≡ n * e → 2 * (s * d) * e ≤ (2 * n + d) * e → d * (2 * (s * e)) ≤ d * (2 * (m * 10 ^ 0) + e)
      wide s d n m e same h = Prim.omega (arith, same, h)

  high_at : 2 * (unsigned_abs x.num * 10 ^ 0) < 2 * (s * x.den) + x.den
  high_at = lt_of_mul-lt-mul_left d (wide s d (unsigned_abs n) (unsigned_abs x.num) x.den sizes (mul-lt-mul_of_pos_right high x.above))
    where
      wide : (s d n m e : ℕ) → m * d ≡ n * e → 2 * n * e < (2 * (s * d) + d) * e → d * (2 * (m * 10 ^ 0)) < d * (2 * (s * e) + e)
      wide s d n m e same h = Prim.omega (arith, same, h)

  not_below : pos 0 ≤ℤ n → pos 0 ≤ℤ x.num
  not_below h = zero≤-cancel x.num d above (subst (λ t. pos 0 ≤ℤ t) (sym cross) (zero≤-times n x.den h))

  below : n <ℤ pos 0 → x.num <ℤ pos 0
  below h = by_lt_z x.num (pos 0) (λ k. k) (λ k. absurd (not_both (zero≤-cancel n x.den x.above (subst (λ t. pos 0 ≤ℤ t) cross (zero≤-times x.num d k)))))
    where
      not_both : pos 0 ≤ℤ n → ⊥
      not_both k = Prim.omega (arith, ints, h, k)

  pub over_above : pos 0 ≤ℤ n → IsNearest 0 (over n d) (pos s)
  over_above h = nearest_above 0 s x low_at high_at (not_below h)

  pub over_below : n <ℤ pos 0 → IsNearest 0 (over n d) (neg_ℤ (pos s))
  over_below h = nearest_below 0 s x low_at high_at (below h)

-- ---- whether it is the quotient
whole_cross : (z n : ℤ) (d : ℕ) → 0 < d → whole z ≡ over n d → z *ℤ pos d ≡ n
unfolding whole
whole_cross z n d above e = let is : Is (whole z) n d = subst (λ t. Is t n d) (sym e) (over_is n d above) in is.cross ∙ *ℤ-pos_one n

cross_whole : (z n : ℤ) (d : ℕ) → 0 < d → z *ℤ pos d ≡ n → whole z ≡ over n d
unfolding whole
cross_whole z n d above e = same_value (whole z) (over n d) n d above (record { cross = e ∙ sym (*ℤ-pos_one n) }) (over_is n d above)

size_above : (n : ℤ) → pos 0 ≤ℤ n → n ≡ pos (unsigned_abs n)
size_above (pos n) h = refl
size_above (negsuc n) h = absurd h.le

size_below : (n : ℤ) → n <ℤ pos 0 → n ≡ neg_ℤ (pos (unsigned_abs n))
size_below (pos n) h = absurd (Prim.omega (arith, ints))
size_below (negsuc n) h = refl

opposite_times : (s d : ℕ) → neg_ℤ (pos s) *ℤ pos d ≡ neg_ℤ (pos (s * d))
opposite_times s d = by_ring ring_ℤ (pos s ∷ pos d ∷ []) (pneg (at 0) ⊗ at 1) (pneg (at 0 ⊗ at 1)) refl

exact_above : (n : ℤ) (d s : ℕ) → 0 < d → pos 0 ≤ℤ n → IsTrue ((s * d) == unsigned_abs n) ↔ (whole (pos s) ≡ over n d)
exact_above n d s above h = (
  λ t. cross_whole (pos s) n d above (ap pos (eqb-true (s * d) (unsigned_abs n) t) ∙ sym (size_above n h)),
  λ e. eq-eqb (s * d) (unsigned_abs n) (ap unsigned_abs (whole_cross (pos s) n d above e)),
)

exact_below : (n : ℤ) (d s : ℕ) → 0 < d → n <ℤ pos 0 → IsTrue ((s * d) == unsigned_abs n) ↔ (whole (neg_ℤ (pos s)) ≡ over n d)
exact_below n d s above h = (
  λ t. cross_whole (neg_ℤ (pos s)) n d above (opposite_times s d ∙ ap (λ k. neg_ℤ (pos k)) (eqb-true (s * d) (unsigned_abs n) t) ∙ sym (size_below n h)),
  λ e. eq-eqb (s * d) (unsigned_abs n) (sym (unsigned_abs-neg (pos (s * d))) ∙ ap unsigned_abs (sym (opposite_times s d) ∙ whole_cross (neg_ℤ (pos s)) n d above e)),
)

-- ---- by machine integers
negated : (s : ℕ) → s < 2 ^ 63 → to_z w64 (of_z w64 (pos 0 -ℤ to_z w64 s)) ≡ neg_ℤ (pos s)
negated s h =
    ap (λ t. to_z w64 (of_z w64 (pos 0 -ℤ t))) (to_z_pos w64 s h) ∙ ap (λ t. to_z w64 (of_z w64 t)) (from_zero s)
    ∙ to_z-of_z w64 (neg_ℤ (pos s)) (fits_signed_from_abs w64 (neg_ℤ (pos s)) (subst (λ t. t < 2 ^ 63) (sym (unsigned_abs-neg (pos s))) h))
  where
    from_zero : (s : ℕ) → pos 0 -ℤ pos s ≡ neg_ℤ (pos s)
    from_zero s = Prim.omega (arith, ints)

module _ (n : ℤ) (run d size s : ℕ) (is : size ≡ unsigned_abs n) (same : d ≡ run) (above : 0 < run) (low : 2 * (s * d) ≤ 2 * size + d) (high : 2 * size < 2 * (s * d) + d) where
  low_by : 2 * (s * run) ≤ 2 * unsigned_abs n + run
  low_by = subst (λ e. 2 * (s * e) ≤ 2 * unsigned_abs n + e) same (subst (λ t. 2 * (s * d) ≤ 2 * t + d) is low)

  high_by : 2 * unsigned_abs n < 2 * (s * run) + run
  high_by = subst (λ e. 2 * unsigned_abs n < 2 * (s * e) + e) same (subst (λ t. 2 * t < 2 * (s * d) + d) is high)

  read : (z : ℤ) → IsTrue ((s * run) == unsigned_abs n) ↔ (whole z ≡ over n run) → IsTrue ((s * d) == size) ↔ (whole z ≡ over n run)
  read z h = subst (λ e. IsTrue ((s * e) == size) ↔ (whole z ≡ over n run)) (sym same) (subst (λ t. IsTrue ((s * run) == t) ↔ (whole z ≡ over n run)) (sym is) h)

  pub rounded_above : s < 2 ^ 63 → pos 0 ≤ℤ n → IsRounded (over n run) (record { number = to_z w64 s; exact = (s * d) == size })
  rounded_above fits h = record {
    nearest = subst (IsNearest 0 (over n run)) (sym (to_z_pos w64 s fits)) (over_above n run s above low_by high_by h);
    fits = subst (λ z. unsigned_abs z < 2 ^ 63) (sym (to_z_pos w64 s fits)) fits;
    exact = subst (λ z. IsTrue ((s * d) == size) ↔ (whole z ≡ over n run)) (sym (to_z_pos w64 s fits)) (read (pos s) (exact_above n run s above h));
  }

  pub rounded_below : s < 2 ^ 63 → n <ℤ pos 0 → IsRounded (over n run) (record { number = to_z w64 (of_z w64 (pos 0 -ℤ to_z w64 s)); exact = (s * d) == size })
  rounded_below fits h = record {
    nearest = subst (IsNearest 0 (over n run)) (sym (negated s fits)) (over_below n run s above low_by high_by h);
    fits = subst (λ z. unsigned_abs z < 2 ^ 63) (sym (negated s fits)) (subst (λ t. t < 2 ^ 63) (sym (unsigned_abs-neg (pos s))) fits);
    exact = subst (λ z. IsTrue ((s * d) == size) ↔ (whole z ≡ over n run)) (sym (negated s fits)) (read (neg_ℤ (pos s)) (exact_below n run s above h));
  }

  pub beyond : 2 ^ 63 ≤ s → IsBeyond (over n run)
  beyond most = by_lt_z n (pos 0)
      (λ h. (neg_ℤ (pos s), over_below n run s above low_by high_by h, subst (λ t. 2 ^ 63 ≤ t) (sym (unsigned_abs-neg (pos s))) most))
      (λ h. (pos s, over_above n run s above low_by high_by h, most))
