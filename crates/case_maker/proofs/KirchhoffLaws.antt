-- The factors of a ring obey Kirchhoff's laws.
use Rattle.std.proofs.Common.{◌≡◌, ◌<◌, ◌+◌, ◌*◌, ◌∙◌, ℕ, ℤ, pos, neg_ℤ, ◌+ℤ◌, ◌*ℤ◌, Bool, true, false, ◌==◌, List, [], ◌∷◌, refl, sym, subst, ap, ap₂, arith, ne_eqb, if◌then◌else◌}
use Rattle.std.proofs.Math.Nat.{mul-pos}
use Rattle.fraction_theory.specs.Fraction.{neg_ℚ, over, whole, ◌+ℚ◌}
use Rattle.fraction_theory.specs.Sums.{sum_by}
use Rattle.fraction_theory.proofs.FieldLaws.{over-one, over-same, whole-neg, widen}
use Rattle.fraction_theory.proofs.FractionLaws.{Is, over_is, plus_is, same_value}
use Rattle.fraction_theory.proofs.IntegerLaws.{ring_ℤ}
use Rattle.fraction_theory.proofs.ListSums.{sum_by-members}
use Rattle.fraction_theory.proofs.Ring.{at, by_ring, ◌⊕◌, ◌⊗◌}
use Rattle.market_data.specs.Scales.{factor_one, IsRingSize}
use Rattle.market_data.specs.WholeSums.{int_sum}
use Rattle.market_model.specs.Dispatch.{places, zero}
use Rattle.market_model.specs.LimitRows.{shift_factor}
use Rattle.case_maker.specs.Kirchhoff.{ObeysKirchhoff}
use Rattle.case_maker.specs.Rings.{ring_loss, ring_of, ring_shift}
use Rattle.case_maker.proofs.FactorValues.{HasParts, factor-of, node, put_whole, round, size-parts}
use Rattle.case_maker.proofs.PlaceLists.{place-below}

-- ---- fractions over one number
over-plus : (a b : ℤ) (d : ℕ) → 0 < d → over (a +ℤ b) d ≡ over a d +ℚ over b d
over-plus a b d h =
    same_value (over (a +ℤ b) d) (over a d +ℚ over b d) (a *ℤ pos d +ℤ b *ℤ pos d) (d * d) (mul-pos h h)
    (subst (λ (t : ℤ). Is (over (a +ℤ b) d) t (d * d)) (by_ring ring_ℤ (a ∷ b ∷ pos d ∷ []) ((at 0 ⊕ at 1) ⊗ at 2) (at 0 ⊗ at 2 ⊕ at 1 ⊗ at 2) refl) (widen (over (a +ℤ b) d) (a +ℤ b) d d (over_is (a +ℤ b) d h)))
    (plus_is (over a d) (over b d) a b d d (over_is a d h) (over_is b d h))

over-zero : (d : ℕ) → 0 < d → over (pos 0) d ≡ zero
over-zero d h = over-same (pos 0) (pos 0) d 1 h (omega arith) (let e : 0 ≡ 0 * d = omega arith in ap pos e) ∙ over-one (pos 0)

sum-over : (f : ℕ → ℤ) (d : ℕ) → 0 < d → (ls : List ℕ) → sum_by (λ l. over (f l) d) ls ≡ over (int_sum f ls) d
sum-over f d h [] = sym (over-zero d h)
sum-over f d h (l ∷ ls) = ap (λ t. over (f l) d +ℚ t) (sum-over f d h ls) ∙ sym (over-plus (f l) (int_sum f ls) d h)

-- one MW, and none
over-put : (b : Bool) → over (if b then pos factor_one else pos 0) factor_one ≡ (if b then whole (pos 1) else zero)
over-put true = over-same (pos factor_one) (pos 1) factor_one 1 (omega arith) (omega arith) refl ∙ over-one (pos 1)
over-put false = over-zero factor_one (omega arith)

over-less : over (neg_ℤ (pos factor_one)) factor_one ≡ neg_ℚ (whole (pos 1))
over-less = over-same (neg_ℤ (pos factor_one)) (neg_ℤ (pos 1)) factor_one 1 (omega arith) (omega arith) refl ∙ over-one (neg_ℤ (pos 1)) ∙ whole-neg (pos 1)

module _ (n seed : ℕ) (parts : HasParts n) where
  shift-at : (l i : ℕ) → l < n → i < n → shift_factor (ring_of n seed) l i ≡ over (ring_shift n l i) factor_one
  shift-at l i p q = ap (λ (v : ℤ). over v factor_one) (factor-of (ring_shift n) n l i p q)

  pub obeys : ObeysKirchhoff n seed
  obeys = record {
    nodes = λ j i p q.
        shift-at (j + 1) i p q
        ∙ ap (λ (v : ℤ). over v factor_one) (node n parts i q j)
        ∙ over-plus (ring_shift n j i) (put_whole n parts i q (j + 1)) factor_one (omega arith)
        ∙ ap₂ ◌+ℚ◌ (sym (shift-at j i (omega (arith, p)) q)) (over-put (i == (j + 1)));
    loop = λ i q.
        sum_by-members (λ l. shift_factor (ring_of n seed) l i) (λ l. over (ring_shift n l i) factor_one) (places n) (λ l c. shift-at l i (place-below n l c) q)
        ∙ sum-over (λ l. ring_shift n l i) factor_one (omega arith) (places n)
        ∙ ap (λ (v : ℤ). over v factor_one) (round n parts i q)
        ∙ over-zero factor_one (omega arith);
    lost = λ l k p q other.
        ap (λ (v : ℤ). over v factor_one) (factor-of ring_loss n l k p q ∙ ap (λ (b : Bool). if b then pos 0 else neg_ℤ (pos factor_one)) (ne_eqb l k other))
        ∙ over-less;
  }

pub kirchhoff : (n seed : ℕ) → IsRingSize n → ObeysKirchhoff n seed
kirchhoff n seed size = obeys n seed (size-parts n size)
