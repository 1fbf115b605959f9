-- What lies in a range that rounds to one number of units has that as its nearest.
use Rattle.std.specs.Prelude.{◌≡◌, ℕ, ◌⊎◌, ℤ, pos, ◌+ℤ◌, ◌-ℤ◌, ◌*ℤ◌, neg_ℤ, ◌≤ℤ◌, ◌<ℤ◌, List, [], ◌∷◌, refl}
use Rattle.std.proofs.Common.{arith, ap, sym, subst, subst₂, ◌∙◌, inl, inr}
use Rattle.std.proofs.Math.Nat.{zero-lt-suc}
use Rattle.std.proofs.lemmas.Int.{ints}
use mathlib.Core.Path.{ap₂}
use Rattle.fraction_theory.specs.Fraction.{Fraction, whole, ◌+ℚ◌, ◌-ℚ◌, ◌*ℚ◌, neg_ℚ}
use Rattle.fraction_theory.specs.Order.{◌≤ℚ◌, ◌<ℚ◌}
use Rattle.fraction_theory.specs.Signs.{abs_ℚ}
use Rattle.fraction_theory.proofs.FieldLaws.{ring_ℚ, whole-*ℚ, whole-+ℚ, whole-neg}
use Rattle.fraction_theory.proofs.FractionLaws.{same_value, plus_is, over_is, Is}
use Rattle.fraction_theory.proofs.OrderLaws.{by_le1, by_le2, NonNeg-one, NonNeg_from, whole-≤ℚ, *ℚ-≤ℚ, *ℚ-≤ℚ_cancel, ≤ℚ-or-<ℚ, ≤ℚ_of_same, ≤ℚ_trans, <ℚ-≤ℚ, <ℚ-not-≤ℚ, +ℚ-<ℚ}
use Rattle.fraction_theory.proofs.Ring.{by_ring, by_ring1, at, pnil, pone, pneg, ◌⊕◌, ◌⊗◌}
use Rattle.fraction_theory.proofs.SignLaws.{abs_above, abs_below, abs_within}
use Rattle.exact_fraction.specs.Nearest.{IsNearest, in_units, half}
use Rattle.flow_guess.specs.Rounding.{RoundsUpTo, RoundsDownTo}
use Rattle.flow_guess.proofs.Falls.{whole_above}
use Rattle.flow_guess.proofs.NetSums.{whole_minus}

-- ---- one half
one_of_four : Is (whole (pos 1)) (pos 4) 4
unfolding whole
one_of_four = record { cross = refl }

twice_half : half +ℚ half ≡ whole (pos 1)
twice_half = same_value (half +ℚ half) (whole (pos 1)) (pos 4) 4 (zero-lt-suc 3) (plus_is half half (pos 1) (pos 1) 2 2 (over_is (pos 1) 2 (zero-lt-suc 1)) (over_is (pos 1) 2 (zero-lt-suc 1))) one_of_four

-- half of both sides
halved : (x y : Fraction) → (x +ℚ x) ≤ℚ (y +ℚ y) → x ≤ℚ y
halved x y h = elim (≤ℚ-or-<ℚ x y) [ inl le ↦ le | inr lt ↦ absurd (<ℚ-not-≤ℚ (y +ℚ y) (x +ℚ x) (+ℚ-<ℚ y x y x lt (<ℚ-≤ℚ y x lt)) h) ]

twice : (n : ℤ) → whole (pos 2 *ℤ n) ≡ whole n +ℚ whole n
twice n = ap whole (double n) ∙ whole-+ℚ n n
  where
    double : (n : ℤ) → pos 2 *ℤ n ≡ n +ℤ n
    double n = Prim.omega (arith, ints)

-- the ends of what is nearest to n, twice
low_end : (n : ℤ) → whole (pos 2 *ℤ n -ℤ pos 1) ≡ (whole n +ℚ whole n) -ℚ (half +ℚ half)
low_end n = whole_minus (pos 2 *ℤ n) (pos 1) ∙ ap₂ ◌-ℚ◌ (twice n) (sym twice_half)

high_end : (n : ℤ) → whole (pos 2 *ℤ n +ℤ pos 1) ≡ (whole n +ℚ whole n) +ℚ (half +ℚ half)
high_end n = whole-+ℚ (pos 2 *ℤ n) (pos 1) ∙ ap₂ ◌+ℚ◌ (twice n) (sym twice_half)

whole-<ℚ : (a b : ℤ) → a <ℤ b → whole a <ℚ whole b
unfolding whole
whole-<ℚ a b h = record { cross = Prim.omega (arith, ints, h) }

-- the numbers of parts that u units are between, of which each unit is so many
module _ (part : ℤ) (above : pos 0 <ℤ part) (u : Fraction) where
  parts_not_below : pos 0 ≤ℤ part
  parts_not_below = Prim.omega (arith, ints, above)

  twice_parts : (n : ℤ) → whole n ≤ℚ (whole part *ℚ u) → whole (pos 2 *ℤ n) ≤ℚ (whole part *ℚ (u +ℚ u))
  twice_parts n h = subst (λ t. t ≤ℚ (whole part *ℚ (u +ℚ u))) (sym (twice n)) (by_le2 (whole part ∷ u ∷ whole n ∷ []) (at 2 ⊕ at 2) (at 0 ⊗ (at 1 ⊕ at 1)) pone (at 2) (at 0 ⊗ at 1) pone (at 2) (at 0 ⊗ at 1) NonNeg-one h NonNeg-one h refl)

  parts_twice : (n : ℤ) → (whole part *ℚ u) ≤ℚ whole n → (whole part *ℚ (u +ℚ u)) ≤ℚ whole (pos 2 *ℤ n)
  parts_twice n h = subst (λ t. (whole part *ℚ (u +ℚ u)) ≤ℚ t) (sym (twice n)) (by_le2 (whole part ∷ u ∷ whole n ∷ []) (at 0 ⊗ (at 1 ⊕ at 1)) (at 2 ⊕ at 2) pone (at 0 ⊗ at 1) (at 2) pone (at 0 ⊗ at 1) (at 2) NonNeg-one h NonNeg-one h refl)

  not_below : (a n : ℤ) → (part *ℤ a) ≤ℤ (pos 2 *ℤ n) → whole n ≤ℚ (whole part *ℚ u) → whole a ≤ℚ (u +ℚ u)
  not_below a n h le = *ℚ-≤ℚ_cancel (whole part) (whole a) (u +ℚ u) (whole_above part above)
      (≤ℚ_trans (whole part *ℚ whole a) (whole (pos 2 *ℤ n)) (whole part *ℚ (u +ℚ u)) (subst (λ t. t ≤ℚ whole (pos 2 *ℤ n)) (whole-*ℚ part a) (whole-≤ℚ (part *ℤ a) (pos 2 *ℤ n) h)) (twice_parts n le))

  not_above : (b n : ℤ) → (pos 2 *ℤ n) ≤ℤ (part *ℤ b) → (whole part *ℚ u) ≤ℚ whole n → (u +ℚ u) ≤ℚ whole b
  not_above b n h le = *ℚ-≤ℚ_cancel (whole part) (u +ℚ u) (whole b) (whole_above part above)
      (≤ℚ_trans (whole part *ℚ (u +ℚ u)) (whole (pos 2 *ℤ n)) (whole part *ℚ whole b) (parts_twice n le) (subst (λ t. whole (pos 2 *ℤ n) ≤ℚ t) (whole-*ℚ part b) (whole-≤ℚ (pos 2 *ℤ n) (part *ℤ b) h)))

  times_part : (x y : Fraction) → x ≤ℚ y → (whole part *ℚ x) ≤ℚ (whole part *ℚ y)
  times_part x y h = *ℚ-≤ℚ (whole part) x y (NonNeg_from (whole part) (whole-≤ℚ (pos 0) part parts_not_below)) h

  off_low : (a n : ℤ) → (part *ℤ a) <ℤ (pos 2 *ℤ n) → whole n ≤ℚ (whole part *ℚ u) → ¬ ((u +ℚ u) ≤ℚ whole a)
  off_low a n h le below = <ℚ-not-≤ℚ (whole part *ℚ whole a) (whole (pos 2 *ℤ n)) (subst (λ t. t <ℚ whole (pos 2 *ℤ n)) (whole-*ℚ part a) (whole-<ℚ (part *ℤ a) (pos 2 *ℤ n) h))
      (≤ℚ_trans (whole (pos 2 *ℤ n)) (whole part *ℚ (u +ℚ u)) (whole part *ℚ whole a) (twice_parts n le) (times_part (u +ℚ u) (whole a) below))

  off_high : (b n : ℤ) → (pos 2 *ℤ n) <ℤ (part *ℤ b) → (whole part *ℚ u) ≤ℚ whole n → ¬ (whole b ≤ℚ (u +ℚ u))
  off_high b n h le over = <ℚ-not-≤ℚ (whole (pos 2 *ℤ n)) (whole part *ℚ whole b) (subst (λ t. whole (pos 2 *ℤ n) <ℚ t) (whole-*ℚ part b) (whole-<ℚ (pos 2 *ℤ n) (part *ℤ b) h))
      (≤ℚ_trans (whole part *ℚ whole b) (whole part *ℚ (u +ℚ u)) (whole (pos 2 *ℤ n)) (times_part (whole b) (u +ℚ u) over) (parts_twice n le))

-- a number of a size is that or its opposite
by_size : (x h : Fraction) → abs_ℚ x ≡ h → (x ≡ h) ⊎ (x ≡ neg_ℚ h)
by_size x h e = elim (≤ℚ-or-<ℚ (whole (pos 0)) x) [
  | inl le ↦ inl (sym (abs_above x le) ∙ e)
  | inr lt ↦ inr (by_ring ring_ℚ (x ∷ []) (at 0) (pneg (pneg (at 0))) refl ∙ ap neg_ℚ (sym (abs_below x (<ℚ-≤ℚ x (whole (pos 0)) lt)) ∙ e))
]

module _ (k low_parts high_parts part : ℤ) (above : pos 0 <ℤ part) (up : RoundsUpTo k low_parts part) (down : RoundsDownTo k high_parts part) (places : ℕ) (q : Fraction)
    (least : whole low_parts ≤ℚ (whole part *ℚ in_units places q)) (most : (whole part *ℚ in_units places q) ≤ℚ whole high_parts) where
  abbrev u : Fraction
  u = in_units places q

  abbrev vs : List Fraction
  vs = u ∷ whole k ∷ half ∷ []

  low : ((whole k +ℚ whole k) -ℚ (half +ℚ half)) ≤ℚ (u +ℚ u)
  low = subst (λ t. t ≤ℚ (u +ℚ u)) (low_end k) (not_below part above u (pos 2 *ℤ k -ℤ pos 1) low_parts up.near least)

  high : (u +ℚ u) ≤ℚ ((whole k +ℚ whole k) +ℚ (half +ℚ half))
  high = subst (λ t. (u +ℚ u) ≤ℚ t) (high_end k) (not_above part above u (pos 2 *ℤ k +ℤ pos 1) high_parts down.near most)

  near_low : neg_ℚ half ≤ℚ (u -ℚ whole k)
  near_low = halved (neg_ℚ half) (u -ℚ whole k) (by_le1 vs (pneg (at 2) ⊕ pneg (at 2)) ((at 0 ⊕ pneg (at 1)) ⊕ (at 0 ⊕ pneg (at 1))) pone ((at 1 ⊕ at 1) ⊕ pneg (at 2 ⊕ at 2)) (at 0 ⊕ at 0) NonNeg-one low refl)

  near_high : (u -ℚ whole k) ≤ℚ half
  near_high = halved (u -ℚ whole k) half (by_le1 vs ((at 0 ⊕ pneg (at 1)) ⊕ (at 0 ⊕ pneg (at 1))) (at 2 ⊕ at 2) pone (at 0 ⊕ at 0) ((at 1 ⊕ at 1) ⊕ (at 2 ⊕ at 2)) NonNeg-one high refl)

  at_high : u -ℚ whole k ≡ half → u +ℚ u ≡ whole (pos 2 *ℤ k +ℤ pos 1)
  at_high e = by_ring1 ring_ℚ vs (at 0 ⊕ at 0) ((at 1 ⊕ at 1) ⊕ (at 2 ⊕ at 2)) (pone ⊕ pone) (at 0 ⊕ pneg (at 1)) (at 2) e refl ∙ sym (high_end k)

  at_low : u -ℚ whole k ≡ neg_ℚ half → u +ℚ u ≡ whole (pos 2 *ℤ k -ℤ pos 1)
  at_low e = by_ring1 ring_ℚ vs (at 0 ⊕ at 0) ((at 1 ⊕ at 1) ⊕ pneg (at 2 ⊕ at 2)) (pone ⊕ pone) (at 0 ⊕ pneg (at 1)) (pneg (at 2)) e refl ∙ sym (low_end k)

  half_above : whole (pos 0) ≤ℚ half
  half_above = halved (whole (pos 0)) half (subst (λ t. (whole (pos 0) +ℚ whole (pos 0)) ≤ℚ t) (sym twice_half) (by_le1 [] (pnil ⊕ pnil) pone pone pnil pone NonNeg-one (whole-≤ℚ (pos 0) (pos 1) (Prim.omega (arith, ints))) refl))

  -- half a unit above: only where k is below 0
  tie_above : u -ℚ whole k ≡ half → abs_ℚ u ≤ℚ abs_ℚ (whole k)
  tie_above e = elim down.tie [
    | inr lt ↦ absurd (off_high part above u (pos 2 *ℤ k +ℤ pos 1) high_parts lt most (≤ℚ_of_same (whole (pos 2 *ℤ k +ℤ pos 1)) (u +ℚ u) (sym (at_high e))))
    | inl below ↦
        let nil_above : whole k ≤ℚ whole (pos 0) = whole-≤ℚ k (pos 0) (Prim.omega (arith, ints, below)) in
        let one_below : whole k ≤ℚ neg_ℚ (half +ℚ half) = subst (λ t. whole k ≤ℚ t) (whole-neg (pos 1) ∙ ap neg_ℚ (sym twice_half)) (whole-≤ℚ k (neg_ℤ (pos 1)) (Prim.omega (arith, ints, below))) in
        let half_below : (whole k +ℚ half) ≤ℚ whole (pos 0) = by_le2 vs (at 1 ⊕ at 2) pnil pone (at 1) (pneg (at 2 ⊕ at 2)) pone pnil (at 2) NonNeg-one one_below NonNeg-one half_above refl in
        let is : u ≡ whole k +ℚ half = by_ring1 ring_ℚ vs (at 0) (at 1 ⊕ at 2) pone (at 0 ⊕ pneg (at 1)) (at 2) e refl in
        subst₂ (λ x y. abs_ℚ x ≤ℚ y) (sym is) (sym (abs_below (whole k) nil_above))
        (abs_within (whole k +ℚ half) (neg_ℚ (whole k))
        (by_le1 vs (pneg (pneg (at 1))) (at 1 ⊕ at 2) pone pnil (at 2) NonNeg-one half_above refl)
        (by_le2 vs (at 1 ⊕ at 2) (pneg (at 1)) pone (at 1 ⊕ at 2) pnil pone (at 1) pnil NonNeg-one half_below NonNeg-one nil_above refl))
  ]

  -- half a unit below: only where k is above 0
  tie_below : u -ℚ whole k ≡ neg_ℚ half → abs_ℚ u ≤ℚ abs_ℚ (whole k)
  tie_below e = elim up.tie [
    | inr lt ↦ absurd (off_low part above u (pos 2 *ℤ k -ℤ pos 1) low_parts lt least (≤ℚ_of_same (u +ℚ u) (whole (pos 2 *ℤ k -ℤ pos 1)) (at_low e)))
    | inl over ↦
        let nil_below : whole (pos 0) ≤ℚ whole k = whole-≤ℚ (pos 0) k (Prim.omega (arith, ints, over)) in
        let one_above : (half +ℚ half) ≤ℚ whole k = subst (λ t. t ≤ℚ whole k) (sym twice_half) (whole-≤ℚ (pos 1) k (Prim.omega (arith, ints, over))) in
        let above_half : half ≤ℚ whole k = by_le2 vs (at 2) (at 1) pone (at 2 ⊕ at 2) (at 1) pone pnil (at 2) NonNeg-one one_above NonNeg-one half_above refl in
        let is : u ≡ whole k -ℚ half = by_ring1 ring_ℚ vs (at 0) (at 1 ⊕ pneg (at 2)) pone (at 0 ⊕ pneg (at 1)) (pneg (at 2)) e refl in
        subst₂ (λ x y. abs_ℚ x ≤ℚ y) (sym is) (sym (abs_above (whole k) nil_below))
        (abs_within (whole k -ℚ half) (whole k)
        (by_le2 vs (pneg (at 1)) (at 1 ⊕ pneg (at 2)) pone pnil (at 1) pone (at 2) (at 1) NonNeg-one nil_below NonNeg-one above_half refl)
        (by_le1 vs (at 1 ⊕ pneg (at 2)) (at 1) pone pnil (at 2) NonNeg-one half_above refl))
  ]

  pub all_nearest : IsNearest places q k
  all_nearest = record {
    within = abs_within (u -ℚ whole k) half near_low near_high;
    away = λ e. elim (by_size (u -ℚ whole k) half e) [ inl over ↦ tie_above over | inr under ↦ tie_below under ];
  }
