-- Sizes of sums and of products.
use Rattle.std.specs.Prelude.{◌≡◌, pos, List, [], ◌∷◌, Contains, refl}
use Rattle.std.proofs.Common.{arith, sym, subst, inl, inr}
use Rattle.fraction_theory.specs.Fraction.{Fraction, whole, neg_ℚ, ◌+ℚ◌, ◌-ℚ◌, ◌*ℚ◌}
use Rattle.fraction_theory.specs.Order.{◌≤ℚ◌, NonNeg}
use Rattle.fraction_theory.specs.Signs.{abs_ℚ}
use Rattle.fraction_theory.specs.Sums.{sum_by}
use Rattle.fraction_theory.proofs.FieldLaws.{ring_ℚ}
use Rattle.fraction_theory.proofs.ListSums.{Contains-cases, Contains-cons, Contains-head}
use Rattle.fraction_theory.proofs.OrderLaws.{NonNeg-one, NonNeg_from, by_le1, by_le2, ≤ℚ_refl, ≤ℚ_total, ≤ℚ_trans, ≤ℚ_of_same}
use Rattle.fraction_theory.proofs.Ring.{by_ring, at, pnil, pone, pneg, ◌⊕◌, ◌⊗◌}
use Rattle.fraction_theory.proofs.SignLaws.{abs_above, abs_below, abs_opposite}
use Rattle.market_model.specs.Dispatch.{zero}
use Rattle.market_model.specs.Overrun.{Within}

-- ---- opposites
pub opposite : (x y : Fraction) → x ≤ℚ y → neg_ℚ y ≤ℚ neg_ℚ x
opposite x y h = by_le1 (x ∷ y ∷ []) (pneg (at 1)) (pneg (at 0)) pone (at 0) (at 1) NonNeg-one h refl

pub opposite_back : (x y : Fraction) → neg_ℚ y ≤ℚ neg_ℚ x → x ≤ℚ y
opposite_back x y h = by_le1 (x ∷ y ∷ []) (at 0) (at 1) pone (pneg (at 1)) (pneg (at 0)) NonNeg-one h refl

pub opposite_nil : neg_ℚ zero ≡ zero
opposite_nil = by_ring ring_ℚ [] (pneg pnil) pnil refl

-- ---- a number and its opposite are at most its size
pub at_most_size : (f : Fraction) → f ≤ℚ abs_ℚ f
at_most_size f = elim (≤ℚ_total zero f) [
  | inl h ↦ ≤ℚ_of_same f (abs_ℚ f) (sym (abs_above f h))
  | inr h ↦ subst (λ t. f ≤ℚ t) (sym (abs_below f h))
      (≤ℚ_trans f zero (neg_ℚ f) h (by_le1 (f ∷ []) pnil (pneg (at 0)) pone (at 0) pnil NonNeg-one h refl))
]

pub opposite_at_most : (f : Fraction) → neg_ℚ f ≤ℚ abs_ℚ f
opposite_at_most f = subst (λ t. neg_ℚ f ≤ℚ t) (abs_opposite f) (at_most_size (neg_ℚ f))

-- ---- sums and differences
pub nil_plus : (a b : Fraction) → zero ≤ℚ a → zero ≤ℚ b → zero ≤ℚ (a +ℚ b)
nil_plus a b h k = by_le2 (a ∷ b ∷ []) pnil (at 0 ⊕ at 1) pone pnil (at 0) pone pnil (at 1) NonNeg-one h NonNeg-one k refl

pub first_most : (a b : Fraction) → zero ≤ℚ b → a ≤ℚ (a +ℚ b)
first_most a b h = by_le1 (a ∷ b ∷ []) (at 0) (at 0 ⊕ at 1) pone pnil (at 1) NonNeg-one h refl

pub second_most : (a b : Fraction) → zero ≤ℚ a → b ≤ℚ (a +ℚ b)
second_most a b h = by_le1 (a ∷ b ∷ []) (at 1) (at 0 ⊕ at 1) pone pnil (at 0) NonNeg-one h refl

-- the difference of two numbers of at least 0 within their sum, and of two from 0 to the most within that
pub within_both : (a b : Fraction) → zero ≤ℚ a → zero ≤ℚ b → Within (a +ℚ b) (a -ℚ b)
within_both a b h k = record {
  above = by_le2 (a ∷ b ∷ []) (pneg (at 0 ⊕ at 1)) (at 0 ⊕ pneg (at 1)) pone pnil (at 0) pone pnil (at 0) NonNeg-one h NonNeg-one h refl;
  below = by_le2 (a ∷ b ∷ []) (at 0 ⊕ pneg (at 1)) (at 0 ⊕ at 1) pone pnil (at 1) pone pnil (at 1) NonNeg-one k NonNeg-one k refl;
}

pub between : (most a b : Fraction) → zero ≤ℚ a → a ≤ℚ most → zero ≤ℚ b → b ≤ℚ most → Within most (a -ℚ b)
between most a b p q r s = record {
  above = ≤ℚ_trans (neg_ℚ most) (neg_ℚ b) (a -ℚ b) (opposite b most s) (by_le1 (a ∷ b ∷ []) (pneg (at 1)) (at 0 ⊕ pneg (at 1)) pone pnil (at 0) NonNeg-one p refl);
  below = ≤ℚ_trans (a -ℚ b) a most (by_le1 (a ∷ b ∷ []) (at 0 ⊕ pneg (at 1)) (at 0) pone pnil (at 1) NonNeg-one r refl) q;
}

-- the sum of two numbers within theirs
pub within_sum : (p q a b : Fraction) → Within p a → Within q b → Within (p +ℚ q) (a +ℚ b)
within_sum p q a b h k = record {
  above = by_le2 (p ∷ q ∷ a ∷ b ∷ []) (pneg (at 0 ⊕ at 1)) (at 2 ⊕ at 3) pone (pneg (at 0)) (at 2) pone (pneg (at 1)) (at 3) NonNeg-one h.above NonNeg-one k.above refl;
  below = by_le2 (p ∷ q ∷ a ∷ b ∷ []) (at 2 ⊕ at 3) (at 0 ⊕ at 1) pone (at 2) (at 0) pone (at 3) (at 1) NonNeg-one h.below NonNeg-one k.below refl;
}

-- ---- the opposite of a product, of a number within a size and a factor of at most a size
module _ (w n f : Fraction) (within : Within w n) where
  neg_least : f ≤ℚ zero → NonNeg (neg_ℚ f)
  neg_least h = NonNeg_from (neg_ℚ f) (by_le1 (f ∷ []) pnil (pneg (at 0)) pone (at 0) pnil NonNeg-one h refl)

  times_most : (neg_ℚ n *ℚ f) ≤ℚ (w *ℚ abs_ℚ f)
  times_most = elim (≤ℚ_total zero f) [
    | inl h ↦ subst (λ t. (neg_ℚ n *ℚ f) ≤ℚ (w *ℚ t)) (sym (abs_above f h))
        (by_le1 (n ∷ f ∷ w ∷ []) (pneg (at 0) ⊗ at 1) (at 2 ⊗ at 1) (at 1) (pneg (at 2)) (at 0) (NonNeg_from f h) within.above refl)
    | inr h ↦ subst (λ t. (neg_ℚ n *ℚ f) ≤ℚ (w *ℚ t)) (sym (abs_below f h))
        (by_le1 (n ∷ f ∷ w ∷ []) (pneg (at 0) ⊗ at 1) (at 2 ⊗ pneg (at 1)) (pneg (at 1)) (at 0) (at 2) (neg_least h) within.below refl)
  ]

  times_least : (neg_ℚ w *ℚ abs_ℚ f) ≤ℚ (neg_ℚ n *ℚ f)
  times_least = elim (≤ℚ_total zero f) [
    | inl h ↦ subst (λ t. (neg_ℚ w *ℚ t) ≤ℚ (neg_ℚ n *ℚ f)) (sym (abs_above f h))
        (by_le1 (n ∷ f ∷ w ∷ []) (pneg (at 2) ⊗ at 1) (pneg (at 0) ⊗ at 1) (at 1) (at 0) (at 2) (NonNeg_from f h) within.below refl)
    | inr h ↦ subst (λ t. (neg_ℚ w *ℚ t) ≤ℚ (neg_ℚ n *ℚ f)) (sym (abs_below f h))
        (by_le1 (n ∷ f ∷ w ∷ []) (pneg (at 2) ⊗ pneg (at 1)) (pneg (at 0) ⊗ at 1) (pneg (at 1)) (pneg (at 2)) (at 0) (neg_least h) within.above refl)
  ]

  module _ (size : Fraction) (sign : zero ≤ℚ w) (most : abs_ℚ f ≤ℚ size) where
    pub product_most : (neg_ℚ n *ℚ f) ≤ℚ (size *ℚ w)
    product_most = ≤ℚ_trans (neg_ℚ n *ℚ f) (w *ℚ abs_ℚ f) (size *ℚ w) times_most
        (by_le1 (w ∷ abs_ℚ f ∷ size ∷ []) (at 0 ⊗ at 1) (at 2 ⊗ at 0) (at 0) (at 1) (at 2) (NonNeg_from w sign) most refl)

    pub product_least : (neg_ℚ size *ℚ w) ≤ℚ (neg_ℚ n *ℚ f)
    product_least = ≤ℚ_trans (neg_ℚ size *ℚ w) (neg_ℚ w *ℚ abs_ℚ f) (neg_ℚ n *ℚ f)
        (by_le1 (w ∷ abs_ℚ f ∷ size ∷ []) (pneg (at 2) ⊗ at 0) (pneg (at 0) ⊗ at 1) (at 0) (at 1) (at 2) (NonNeg_from w sign) most refl)
        times_least

-- what limits and a room take, where they add up to no more than a sum
pub rest_within : (most size limits taken room : Fraction) → zero ≤ℚ size → limits ≤ℚ most → zero ≤ℚ room → room ≤ℚ most
    → (neg_ℚ size *ℚ limits) ≤ℚ taken → taken ≤ℚ (size *ℚ limits) → Within (most *ℚ (whole (pos 1) +ℚ size)) (taken -ℚ room)
rest_within most size limits taken room sign sums least most_room low high = record {
  above = ≤ℚ_trans (neg_ℚ (most *ℚ (whole (pos 1) +ℚ size))) (neg_ℚ size *ℚ limits -ℚ most) (taken -ℚ room)
      (by_le1 (most ∷ size ∷ limits ∷ []) (pneg (at 0 ⊗ (pone ⊕ at 1))) (pneg (at 1) ⊗ at 2 ⊕ pneg (at 0)) (at 1) (at 2) (at 0) (NonNeg_from size sign) sums refl)
      (by_le2 (most ∷ size ∷ limits ∷ taken ∷ room ∷ []) (pneg (at 1) ⊗ at 2 ⊕ pneg (at 0)) (at 3 ⊕ pneg (at 4)) pone (pneg (at 1) ⊗ at 2) (at 3) pone (at 4) (at 0)
      NonNeg-one low NonNeg-one most_room refl);
  below = ≤ℚ_trans (taken -ℚ room) (size *ℚ limits) (most *ℚ (whole (pos 1) +ℚ size))
      (by_le2 (most ∷ size ∷ limits ∷ taken ∷ room ∷ []) (at 3 ⊕ pneg (at 4)) (at 1 ⊗ at 2) pone (at 3) (at 1 ⊗ at 2) pone pnil (at 4)
      NonNeg-one high NonNeg-one least refl)
      (by_le2 (most ∷ size ∷ limits ∷ []) (at 1 ⊗ at 2) (at 0 ⊗ (pone ⊕ at 1)) (at 1) (at 2) (at 0) pone pnil (at 0)
      (NonNeg_from size sign) sums NonNeg-one (≤ℚ_trans zero room most least most_room) refl);
}

-- ---- sums of numbers of at least 0
module _ {X : Type 0} (g : X → Fraction) where
  pub sum_least : (xs : List X) → ((x : X) → Contains xs x → zero ≤ℚ g x) → zero ≤ℚ sum_by g xs
  sum_least [] each = ≤ℚ_refl zero
  sum_least (y ∷ ys) each = nil_plus (g y) (sum_by g ys) (each y (Contains-head y ys)) (sum_least ys (λ x k. each x (Contains-cons y ys x k)))

  pub member_most : (xs : List X) → ((x : X) → Contains xs x → zero ≤ℚ g x) → (x : X) → Contains xs x → g x ≤ℚ sum_by g xs
  member_most [] each x k = absurd (Prim.omega (arith, k.1))
  member_most (y ∷ ys) each x k = elim (Contains-cases y ys x k) [
    | inl e ↦ subst (λ (z : X). g z ≤ℚ (g y +ℚ sum_by g ys)) e (first_most (g y) (sum_by g ys) (sum_least ys behind))
    | inr l ↦ ≤ℚ_trans (g x) (sum_by g ys) (g y +ℚ sum_by g ys) (member_most ys behind x l) (second_most (g y) (sum_by g ys) (each y (Contains-head y ys)))
  ]
    where
      behind : (z : X) → Contains ys z → zero ≤ℚ g z
      behind z l = each z (Contains-cons y ys z l)
