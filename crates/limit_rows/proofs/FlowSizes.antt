-- Sizes of flows against what they may be.
use Rattle.std.specs.Prelude.{◌≡◌, ◌⊎◌, pos, [], ◌∷◌, refl}
use Rattle.std.specs.Ordering.{MatchOrdering}
use Rattle.std.proofs.Common.{inl, inr, subst, Ordering, Less, Equal, Greater}
use Rattle.fraction_theory.specs.Fraction.{Fraction, whole, neg_ℚ}
use Rattle.fraction_theory.specs.Order.{◌<ℚ◌, ◌≤ℚ◌}
use Rattle.fraction_theory.specs.Signs.{abs_ℚ}
use Rattle.fraction_theory.proofs.OrderLaws.{NonNeg-one, by_le1, <ℚ-not-≤ℚ, ≤ℚ-or-<ℚ, ≤ℚ_trans, <ℚ-≤ℚ, ≤ℚ_of_same}
use Rattle.fraction_theory.proofs.Ring.{at, pneg, pnil, pone}
use Rattle.fraction_theory.proofs.SignLaws.{abs_above, abs_below, abs_within}
use Rattle.market_model.specs.Overrun.{Within}

-- ---- what an order tells
pub not_past : (o : Ordering) (x y : Fraction) → MatchOrdering o (x <ℚ y) (x ≡ y) (y <ℚ x) → (o ≡ Less) ⊎ (o ≡ Equal) → x ≤ℚ y
not_past Less x y h is = <ℚ-≤ℚ x y h
not_past Equal x y h is = ≤ℚ_of_same x y h
not_past Greater x y h (inl e) = absurd Prim.cc
not_past Greater x y h (inr e) = absurd Prim.cc

-- ---- on both sides
from_opposite : (f most : Fraction) → neg_ℚ f ≤ℚ most → neg_ℚ most ≤ℚ f
from_opposite f most h = by_le1 (f ∷ most ∷ []) (pneg (at 1)) (at 0) pone (pneg (at 0)) (at 1) NonNeg-one h refl

below_opposite : (f : Fraction) → f ≤ℚ whole (pos 0) → f ≤ℚ neg_ℚ f
below_opposite f h = ≤ℚ_trans f (whole (pos 0)) (neg_ℚ f) h (by_le1 (f ∷ []) pnil (pneg (at 0)) pone (at 0) pnil NonNeg-one h refl)

opposite_below : (f : Fraction) → whole (pos 0) ≤ℚ f → neg_ℚ f ≤ℚ f
opposite_below f h = ≤ℚ_trans (neg_ℚ f) (whole (pos 0)) f (by_le1 (f ∷ []) (pneg (at 0)) pnil pone pnil (at 0) NonNeg-one h refl) h

pub size_kept : (most f : Fraction) → abs_ℚ f ≤ℚ most → Within most f
size_kept most f h = elim (≤ℚ-or-<ℚ f (whole (pos 0))) [
  | inl below ↦ let size : neg_ℚ f ≤ℚ most = subst (λ t. t ≤ℚ most) (abs_below f below) h in
      record { above = from_opposite f most size; below = ≤ℚ_trans f (neg_ℚ f) most (below_opposite f below) size }
  | inr above ↦ let least = <ℚ-≤ℚ (whole (pos 0)) f above in
      let size : f ≤ℚ most = subst (λ t. t ≤ℚ most) (abs_above f least) h in
      record { above = from_opposite f most (≤ℚ_trans (neg_ℚ f) f most (opposite_below f least) size); below = size }
]

pub not_passed : (most f : Fraction) → Within most f → ¬ (most <ℚ abs_ℚ f)
not_passed most f within h = <ℚ-not-≤ℚ most (abs_ℚ f) h (abs_within f most within.above within.below)
