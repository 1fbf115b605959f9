-- Sums whose terms are all 0 or above, opposites and differences of sums.
use Rattle.std.specs.Prelude.{◌≡◌, pos, List, [], ◌∷◌, refl}
use Rattle.std.specs.List.{Contains}
use Rattle.std.proofs.Common.{arith, ap, ◌∙◌, subst, inl, inr}
use Rattle.fraction_theory.specs.Fraction.{Fraction, whole, ◌+ℚ◌, ◌-ℚ◌, neg_ℚ}
use Rattle.fraction_theory.specs.Order.{◌≤ℚ◌}
use Rattle.fraction_theory.specs.Sums.{sum_by}
use Rattle.fraction_theory.proofs.Ring.{by_ring, at, pnil, pone, pneg, ◌⊕◌}
use Rattle.fraction_theory.proofs.FieldLaws.{ring_ℚ}
use Rattle.fraction_theory.proofs.OrderLaws.{≤ℚ_refl, by_le1, by_le2, NonNeg-one}
use Rattle.fraction_theory.proofs.SumLaws.{sum_by-plus}
use Rattle.fraction_theory.proofs.ListSums.{Contains-head, Contains-cons, Contains-cases}

pub sum_above : {T : Type 0} (f : T → Fraction) (xs : List T) → ((x : T) → Contains xs x → whole (pos 0) ≤ℚ f x) → whole (pos 0) ≤ℚ sum_by f xs
sum_above f [] h = ≤ℚ_refl (whole (pos 0))
sum_above f (x ∷ xs) h = by_le2 (f x ∷ sum_by f xs ∷ []) pnil (at 0 ⊕ at 1) pone pnil (at 0) pone pnil (at 1) NonNeg-one (h x (Contains-head x xs))
    NonNeg-one (sum_above f xs (λ y c. h y (Contains-cons x xs y c))) refl

-- no term is above the sum
pub term_within : {T : Type 0} (f : T → Fraction) (xs : List T) → ((x : T) → Contains xs x → whole (pos 0) ≤ℚ f x) → (y : T) → Contains xs y → f y ≤ℚ sum_by f xs
term_within f [] h y c = absurd (Prim.omega (arith, c.1))
term_within {T} f (x ∷ xs) h y c =
    let later : (z : T) → Contains xs z → whole (pos 0) ≤ℚ f z = λ z k. h z (Contains-cons x xs z k) in
    elim (Contains-cases x xs y c) [
      | inl e ↦ subst (λ z. f z ≤ℚ (f x +ℚ sum_by f xs)) e (by_le1 (f x ∷ sum_by f xs ∷ []) (at 0) (at 0 ⊕ at 1) pone pnil (at 1) NonNeg-one (sum_above f xs later) refl)
      | inr k ↦ by_le2 (f x ∷ sum_by f xs ∷ f y ∷ []) (at 2) (at 0 ⊕ at 1) pone (at 2) (at 1) pone pnil (at 0) NonNeg-one (term_within f xs later y k) NonNeg-one (h x (Contains-head x xs)) refl
    ]

pub sum_by-neg : {T : Type 0} (f : T → Fraction) (xs : List T) → sum_by (λ x. neg_ℚ (f x)) xs ≡ neg_ℚ (sum_by f xs)
sum_by-neg f [] = by_ring ring_ℚ [] pnil (pneg pnil) refl
sum_by-neg f (x ∷ xs) = ap (λ t. neg_ℚ (f x) +ℚ t) (sum_by-neg f xs) ∙ by_ring ring_ℚ (f x ∷ sum_by f xs ∷ []) (pneg (at 0) ⊕ pneg (at 1)) (pneg (at 0 ⊕ at 1)) refl

pub sum_by-minus : {T : Type 0} (f g : T → Fraction) (xs : List T) → sum_by (λ x. f x -ℚ g x) xs ≡ sum_by f xs -ℚ sum_by g xs
sum_by-minus f g xs = sum_by-plus f (λ x. neg_ℚ (g x)) xs ∙ ap (λ t. sum_by f xs +ℚ t) (sum_by-neg g xs)

-- sums in the order of their terms
pub sum_within : {T : Type 0} (f g : T → Fraction) (xs : List T) → ((x : T) → Contains xs x → f x ≤ℚ g x) → sum_by f xs ≤ℚ sum_by g xs
sum_within f g xs h = by_le1 (sum_by f xs ∷ sum_by g xs ∷ []) (at 0) (at 1) pone pnil (at 1 ⊕ pneg (at 0)) NonNeg-one
    (subst (λ t. whole (pos 0) ≤ℚ t) (sum_by-minus g f xs)
    (sum_above (λ x. g x -ℚ f x) xs (λ x c. by_le1 (f x ∷ g x ∷ []) pnil (at 1 ⊕ pneg (at 0)) pone (at 0) (at 1) NonNeg-one (h x c) refl))) refl
