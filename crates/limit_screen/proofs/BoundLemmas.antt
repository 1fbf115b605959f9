-- Numbers by whole ones that are near them, and what these tell of flows and their limits.
use Rattle.std.specs.Prelude.{◌≡◌, ℕ, ◌*◌, ◌<◌, ◌≤◌, ℤ, pos, negsuc, ◌+ℤ◌, ◌*ℤ◌, neg_ℤ, ◌≤ℤ◌, unsigned_abs, [], ◌∷◌, refl}
use Rattle.std.proofs.Common.{suc, arith, ap, sym, subst, ◌∙◌}
use Rattle.std.proofs.lemmas.Int.{ints}
use Rattle.fraction_theory.specs.Fraction.{Fraction, whole, over, neg_ℚ, ◌+ℚ◌, ◌*ℚ◌}
use Rattle.fraction_theory.specs.Order.{NonNeg, ◌<ℚ◌, ◌≤ℚ◌}
use Rattle.fraction_theory.specs.Signs.{abs_ℚ}
use Rattle.fraction_theory.proofs.FieldLaws.{ring_ℚ, widen, whole_is, whole-+ℚ, whole-*ℚ, whole-neg}
use Rattle.fraction_theory.proofs.FractionLaws.{Is, over_is, same_value, times_is}
use Rattle.fraction_theory.proofs.IntegerLaws.{ring_ℤ}
use Rattle.fraction_theory.proofs.OrderLaws.{NonNeg-one, NonNeg_from, by_le1, <ℚ-≤ℚ, ≤ℚ_trans, +ℚ-≤ℚ, *ℚ-≤ℚ, *ℚ-≤ℚ_neg, *ℚ-≤ℚ_cancel, whole-≤ℚ}
use Rattle.fraction_theory.proofs.Ring.{at, by_ring, by_ring1, padd, pmul, pneg, pone}
use Rattle.fraction_theory.proofs.SignLaws.{abs_within}
use Rattle.exact_fraction.specs.Floor.{IsFloor}
use Rattle.limit_screen.specs.declared.bounds.Near.{Near}
use Rattle.limit_screen.specs.Bounds.{IsNear, IsUpTo}

-- ---- products
next_product : (h k : ℤ) → h *ℤ (k +ℤ pos 1) ≡ h *ℤ k +ℤ h
next_product h k = by_ring ring_ℤ (h ∷ k ∷ []) (pmul (at 0) (padd (at 1) pone)) (padd (pmul (at 0) (at 1)) (at 0)) refl

not_below : (n : ℕ) → NonNeg (whole (pos n))
not_below n = NonNeg_from (whole (pos n)) (whole-≤ℚ (pos 0) (pos n) (Prim.omega (arith, ints)))

module _ (x : Fraction) (k : ℤ) (floor : IsFloor x k) where
  next_above : x ≤ℚ whole (k +ℤ pos 1)
  next_above = <ℚ-≤ℚ x (whole (k +ℤ pos 1)) floor.next

  -- between the products of a factor with the two whole numbers that the other one is between
  from_part : (h : ℤ) → NonNeg (whole h) → (whole (h *ℤ k) ≤ℚ (whole h *ℚ x)) × ((whole h *ℚ x) ≤ℚ whole (h *ℤ k +ℤ h))
  from_part h sign = (
    subst (λ t. t ≤ℚ (whole h *ℚ x)) (sym (whole-*ℚ h k)) (*ℚ-≤ℚ (whole h) (whole k) x sign floor.least),
    subst (λ t. (whole h *ℚ x) ≤ℚ t) (sym (whole-*ℚ h (k +ℤ pos 1)) ∙ ap whole (next_product h k)) (*ℚ-≤ℚ (whole h) x (whole (k +ℤ pos 1)) sign next_above),
  )

  from_next : (h : ℤ) → NonNeg (neg_ℚ (whole h)) → (whole (h *ℤ k +ℤ h) ≤ℚ (whole h *ℚ x)) × ((whole h *ℚ x) ≤ℚ whole (h *ℤ k))
  from_next h sign = (
    subst (λ t. t ≤ℚ (whole h *ℚ x)) (sym (whole-*ℚ h (k +ℤ pos 1)) ∙ ap whole (next_product h k)) (*ℚ-≤ℚ_neg (whole h) x (whole (k +ℤ pos 1)) sign next_above),
    subst (λ t. (whole h *ℚ x) ≤ℚ t) (sym (whole-*ℚ h k)) (*ℚ-≤ℚ_neg (whole h) (whole k) x sign floor.least),
  )

  -- the product of a whole factor and a number is near that with its whole part
  pub near_by_part : (h : ℤ) (near : Near) → near.number ≡ h *ℤ k → near.off ≡ pos (unsigned_abs h) → IsNear (whole h *ℚ x) near
  near_by_part (pos n) near is off =
      let p = from_part (pos n) (not_below n) in record {
        least = ≤ℚ_trans (whole (near.number +ℤ neg_ℤ near.off)) (whole (pos n *ℤ k)) (whole (pos n) *ℚ x) (whole-≤ℚ _ _ (Prim.omega (arith, ints, is, off))) p.0;
        most = ≤ℚ_trans (whole (pos n) *ℚ x) (whole (pos n *ℤ k +ℤ pos n)) (whole (near.number +ℤ near.off)) p.1 (whole-≤ℚ _ _ (Prim.omega (arith, ints, is, off)));
      }
  near_by_part (negsuc n) near is off =
      let p = from_next (negsuc n) (subst NonNeg (whole-neg (negsuc n)) (not_below (suc n))) in record {
        least = ≤ℚ_trans (whole (near.number +ℤ neg_ℤ near.off)) (whole (negsuc n *ℤ k +ℤ negsuc n)) (whole (negsuc n) *ℚ x) (whole-≤ℚ _ _ (Prim.omega (arith, ints, is, off))) p.0;
        most = ≤ℚ_trans (whole (negsuc n) *ℚ x) (whole (negsuc n *ℤ k)) (whole (near.number +ℤ near.off)) p.1 (whole-≤ℚ _ _ (Prim.omega (arith, ints, is, off)));
      }

-- ---- sums
pub near_both : (x y : Fraction) (first second near : Near) → near.number ≡ first.number +ℤ second.number → near.off ≡ first.off +ℤ second.off → IsNear x first → IsNear y second → IsNear (x +ℚ y) near
near_both x y first second near is off p q = record {
  least = subst (λ t. t ≤ℚ (x +ℚ y)) (sym (whole-+ℚ (first.number +ℤ neg_ℤ first.off) (second.number +ℤ neg_ℤ second.off)) ∙ ap whole (Prim.omega (arith, ints, is, off))) (+ℚ-≤ℚ _ x _ y p.least q.least);
  most = subst (λ t. (x +ℚ y) ≤ℚ t) (sym (whole-+ℚ (first.number +ℤ first.off) (second.number +ℤ second.off)) ∙ ap whole (Prim.omega (arith, ints, is, off))) (+ℚ-≤ℚ x _ y _ p.most q.most);
}

-- ---- parts of a whole
-- so many parts of a number of parts are that number
parts_of_whole : (n : ℤ) (d : ℕ) → 0 < d → whole (pos d) *ℚ over n d ≡ whole n
parts_of_whole n d h = same_value (whole (pos d) *ℚ over n d) (whole n) (n *ℤ pos d) (1 * d) (Prim.omega (arith, h))
    (subst (λ t. Is (whole (pos d) *ℚ over n d) t (1 * d)) (by_ring ring_ℤ (n ∷ pos d ∷ []) (pmul (at 1) (at 0)) (pmul (at 0) (at 1)) refl) (times_is (whole (pos d)) (over n d) (pos d) n 1 d (whole_is (pos d)) (over_is n d h)))
    (widen (whole n) n 1 d (whole_is n))

-- of a number and of so many parts of another, times the parts of a whole
pub times_parts : (own gone : Fraction) (n : ℤ) (d : ℕ) → 0 < d → whole (pos d) *ℚ (own +ℚ over n d *ℚ gone) ≡ whole (pos d) *ℚ own +ℚ whole n *ℚ gone
times_parts own gone n d h = by_ring1 ring_ℚ (whole (pos d) ∷ own ∷ over n d ∷ gone ∷ whole n ∷ [])
    (pmul (at 0) (padd (at 1) (pmul (at 2) (at 3)))) (padd (pmul (at 0) (at 1)) (pmul (at 4) (at 3))) (at 3) (pmul (at 0) (at 2)) (at 4) (parts_of_whole n d h) refl

-- ---- a limit
whole_above : (d : ℕ) → 0 < d → whole (pos 0) <ℚ whole (pos d)
unfolding whole
whole_above d h = record { cross = Prim.omega (arith, ints, h) }

-- a number whose multiple is near a whole one is at most as large as that tells
pub size_within : (f : Fraction) (d : ℕ) (near : Near) (most times : ℤ) → 0 < d → IsNear (whole (pos d) *ℚ f) near → times ≡ most *ℤ pos d
    → (near.number +ℤ near.off) ≤ℤ times → neg_ℤ times ≤ℤ (near.number +ℤ neg_ℤ near.off) → abs_ℚ f ≤ℚ whole most
size_within f d near most times h is e above below = abs_within f (whole most) from_low from_high
  where
    multiple : whole times ≡ whole (pos d) *ℚ whole most
    multiple = ap whole (e ∙ by_ring ring_ℤ (most ∷ pos d ∷ []) (pmul (at 0) (at 1)) (pmul (at 1) (at 0)) refl) ∙ whole-*ℚ (pos d) most

    opposite : whole (neg_ℤ times) ≡ whole (pos d) *ℚ neg_ℚ (whole most)
    opposite = whole-neg times ∙ ap neg_ℚ multiple ∙ by_ring ring_ℚ (whole (pos d) ∷ whole most ∷ []) (pneg (pmul (at 0) (at 1))) (pmul (at 0) (pneg (at 1))) refl

    positive : whole (pos 0) <ℚ whole (pos d)
    positive = whole_above d h

    from_high : f ≤ℚ whole most
    from_high = *ℚ-≤ℚ_cancel (whole (pos d)) f (whole most) positive (subst (λ t. (whole (pos d) *ℚ f) ≤ℚ t) multiple (≤ℚ_trans (whole (pos d) *ℚ f) _ (whole times) is.most (whole-≤ℚ _ _ above)))

    from_low : neg_ℚ (whole most) ≤ℚ f
    from_low = *ℚ-≤ℚ_cancel (whole (pos d)) (neg_ℚ (whole most)) f positive (subst (λ t. t ≤ℚ (whole (pos d) *ℚ f)) opposite (≤ℚ_trans (whole (neg_ℤ times)) _ (whole (pos d) *ℚ f) (whole-≤ℚ _ _ below) is.least))

-- a size that is at most a limit and so much more passes the limit by no more than that
pub overrun_within : (size limit more : Fraction) → size ≤ℚ (limit +ℚ more) → (size +ℚ neg_ℚ limit) ≤ℚ more
overrun_within size limit more h = by_le1 (size ∷ limit ∷ more ∷ []) (padd (at 0) (pneg (at 1))) (at 2) pone (at 0) (padd (at 1) (at 2)) NonNeg-one h refl

-- whole numbers that are at most so large are at most so large as a larger number
pub up_to_more : (a b : ℕ) (near : Near) → a ≤ b → IsUpTo a near → IsUpTo b near
up_to_more a b near h is = record { number = Prim.omega (arith, h, is.number); off = Prim.omega (arith, h, is.off) }
