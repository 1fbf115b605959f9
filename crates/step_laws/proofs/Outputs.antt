-- The order of outputs is that of their MW.
use Rattle.std.specs.Prelude.{◌≡◌, ℕ, ◌<◌, ◌^◌, ℤ, pos, ◌+ℤ◌, ◌*ℤ◌, ◌≤ℤ◌, neg_ℤ, [], ◌∷◌}
use Rattle.std.proofs.Common.{arith, sym, subst, refl}
use Rattle.fraction_theory.specs.Fraction.{Fraction, over}
use Rattle.fraction_theory.specs.Order.{◌≤ℚ◌}
use Rattle.fraction_theory.proofs.Ring.{at, pneg, ◌⊕◌, ◌⊗◌, by_ring2}
use Rattle.fraction_theory.proofs.IntegerLaws.{ring_ℤ, zero≤-cancel, zero≤-times, le_by_difference, difference_by_le}
use Rattle.fraction_theory.proofs.FractionLaws.{over_is}
use Rattle.cost_steps.specs.Costs.{mw}

module _ (x y : ℤ) (d : ℕ) (above : 0 < d) where
  abbrev X : Fraction
  X = over x d

  abbrev Y : Fraction
  Y = over y d

  -- the two differences, by cross multiplication
  across : (y +ℤ neg_ℤ x) *ℤ pos X.den *ℤ pos Y.den ≡ (Y.num *ℤ pos X.den +ℤ neg_ℤ (X.num *ℤ pos Y.den)) *ℤ pos d
  across = by_ring2 ring_ℤ (X.num ∷ pos X.den ∷ Y.num ∷ pos Y.den ∷ x ∷ y ∷ pos d ∷ [])
      ((at 5 ⊕ pneg (at 4)) ⊗ at 1 ⊗ at 3) ((at 2 ⊗ at 1 ⊕ pneg (at 0 ⊗ at 3)) ⊗ at 6)
      (at 3) (at 0 ⊗ at 6) (at 4 ⊗ at 1) (pneg (at 1)) (at 2 ⊗ at 6) (at 5 ⊗ at 3) (over_is x d above).cross (over_is y d above).cross refl

  over_order : x ≤ℤ y → over x d ≤ℚ over y d
  over_order h = record {
    cross = le_by_difference (X.num *ℤ pos Y.den) (Y.num *ℤ pos X.den)
        (zero≤-cancel (Y.num *ℤ pos X.den +ℤ neg_ℤ (X.num *ℤ pos Y.den)) d above
        (subst (λ t. pos 0 ≤ℤ t) across (zero≤-times ((y +ℤ neg_ℤ x) *ℤ pos X.den) Y.den (zero≤-times (y +ℤ neg_ℤ x) X.den (difference_by_le x y h)))));
  }

  over_back : over x d ≤ℚ over y d → x ≤ℤ y
  over_back h = le_by_difference x y
      (zero≤-cancel (y +ℤ neg_ℤ x) X.den X.above (zero≤-cancel ((y +ℤ neg_ℤ x) *ℤ pos X.den) Y.den Y.above
      (subst (λ t. pos 0 ≤ℤ t) (sym across) (zero≤-times (Y.num *ℤ pos X.den +ℤ neg_ℤ (X.num *ℤ pos Y.den)) d (difference_by_le (X.num *ℤ pos Y.den) (Y.num *ℤ pos X.den) h.cross)))))

billion : 0 < 10 ^ 9
billion = omega arith

pub mw_order : (x y : ℤ) → x ≤ℤ y → mw x ≤ℚ mw y
mw_order x y h = over_order x y (10 ^ 9) billion h

pub mw_back : (x y : ℤ) → mw x ≤ℚ mw y → x ≤ℤ y
mw_back x y h = over_back x y (10 ^ 9) billion h
