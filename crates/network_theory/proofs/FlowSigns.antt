-- The sign of a flow and the order of the angles at its ends.
use Rattle.std.specs.Prelude.{pos, [], ◌∷◌, refl}
use Rattle.fraction_theory.specs.Fraction.{Fraction, whole, ◌-ℚ◌, ◌*ℚ◌}
use Rattle.fraction_theory.specs.Order.{◌≤ℚ◌, ◌<ℚ◌}
use Rattle.fraction_theory.proofs.Ring.{at, pnil, pone, pneg, ◌⊕◌, ◌⊗◌}
use Rattle.fraction_theory.proofs.OrderLaws.{by_le1, *ℚ-≤ℚ_cancel, <ℚ-≤ℚ, NonNeg-one, NonNeg_from}

module _ (s x y : Fraction) (above : whole (pos 0) <ℚ s) where
  pub falls : whole (pos 0) ≤ℚ (s *ℚ (x -ℚ y)) → y ≤ℚ x
  falls h = *ℚ-≤ℚ_cancel s y x above (by_le1 (s ∷ x ∷ y ∷ []) (at 0 ⊗ at 2) (at 0 ⊗ at 1) pone pnil (at 0 ⊗ (at 1 ⊕ pneg (at 2))) NonNeg-one h refl)

  pub rises : (s *ℚ (x -ℚ y)) ≤ℚ whole (pos 0) → x ≤ℚ y
  rises h = *ℚ-≤ℚ_cancel s x y above (by_le1 (s ∷ x ∷ y ∷ []) (at 0 ⊗ at 1) (at 0 ⊗ at 2) pone (at 0 ⊗ (at 1 ⊕ pneg (at 2))) pnil NonNeg-one h refl)

  pub carried_down : y ≤ℚ x → whole (pos 0) ≤ℚ (s *ℚ (x -ℚ y))
  carried_down h = by_le1 (s ∷ x ∷ y ∷ []) pnil (at 0 ⊗ (at 1 ⊕ pneg (at 2))) (at 0) (at 2) (at 1) (NonNeg_from s (<ℚ-≤ℚ (whole (pos 0)) s above)) h refl

  pub carried_back : x ≤ℚ y → (s *ℚ (x -ℚ y)) ≤ℚ whole (pos 0)
  carried_back h = by_le1 (s ∷ x ∷ y ∷ []) (at 0 ⊗ (at 1 ⊕ pneg (at 2))) pnil (at 0) (at 1) (at 2) (NonNeg_from s (<ℚ-≤ℚ (whole (pos 0)) s above)) h refl
