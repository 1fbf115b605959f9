-- Sums compared by their terms, and where one term changes.
use Rattle.std.specs.Prelude.{◌≡◌, ◌≢◌, ℕ, Bool, true, false, List, [], ◌∷◌, refl}
use Rattle.std.specs.List.{Contains}
use Rattle.std.proofs.Common.{arith, ap, sym, ◌∙◌, subst, subst₂, inl, inr}
use Rattle.fraction_theory.specs.Fraction.{Fraction, ◌+ℚ◌, ◌*ℚ◌, neg_ℚ}
use Rattle.fraction_theory.specs.Order.{◌≤ℚ◌, ◌<ℚ◌}
use Rattle.fraction_theory.specs.Sums.{sum_by}
use Rattle.fraction_theory.proofs.Ring.{by_ring, at, pnil, pneg, ◌⊕◌, ◌⊗◌}
use Rattle.fraction_theory.proofs.FieldLaws.{ring_ℚ}
use Rattle.fraction_theory.proofs.OrderLaws.{≤ℚ_refl, +ℚ-≤ℚ, +ℚ-<ℚ}
use Rattle.fraction_theory.proofs.ListSums.{Contains-head, Contains-cons, Contains-cases, Distinct, except, put_at-here, put_at-elsewhere, same_or_not, sum_by-split, sum_by-members}
use Rattle.simplex_theory.specs.Steps.{opposite_if}

-- a sum of terms none of which is greater
pub sum_by-at_most : (f g : ℕ → Fraction) (xs : List ℕ) → ((w : ℕ) → Contains xs w → f w ≤ℚ g w) → sum_by f xs ≤ℚ sum_by g xs
sum_by-at_most f g [] h = ≤ℚ_refl (sum_by f [])
sum_by-at_most f g (x ∷ xs) h = +ℚ-≤ℚ (f x) (g x) (sum_by f xs) (sum_by g xs) (h x (Contains-head x xs)) (sum_by-at_most f g xs (λ w c. h w (Contains-cons x xs w c)))

-- one of which, at z, is lower
pub sum_by-below : (f g : ℕ → Fraction) (xs : List ℕ) (z : ℕ) → Contains xs z → ((w : ℕ) → Contains xs w → f w ≤ℚ g w) → f z <ℚ g z → sum_by f xs <ℚ sum_by g xs
sum_by-below f g [] z c h l = absurd (Prim.omega (arith, c.1))
sum_by-below f g (x ∷ xs) z c h l =
    let rest : (w : ℕ) → Contains xs w → f w ≤ℚ g w = λ w k. h w (Contains-cons x xs w k) in
    elim (Contains-cases x xs z c) [
      | inl e ↦ +ℚ-<ℚ (f x) (g x) (sum_by f xs) (sum_by g xs) (subst (λ (w : ℕ). f w <ℚ g w) (sym e) l) (sum_by-at_most f g xs rest)
      | inr k ↦ subst₂ ◌<ℚ◌ (ring_ℚ.plus_comm (sum_by f xs) (f x)) (ring_ℚ.plus_comm (sum_by g xs) (g x))
          (+ℚ-<ℚ (sum_by f xs) (sum_by g xs) (f x) (g x) (sum_by-below f g xs z k rest l) (h x (Contains-head x xs)))
    ]

-- sums that differ in the term at a alone
pub sum_by-change : (f g : ℕ → Fraction) (a : ℕ) (xs : List ℕ) → Distinct xs → Contains xs a → ((w : ℕ) → Contains xs w → w ≢ a → f w ≡ g w) → sum_by f xs +ℚ g a ≡ sum_by g xs +ℚ f a
sum_by-change f g a xs d c h =
    let rest : sum_by (except a f) xs ≡ sum_by (except a g) xs = sum_by-members (except a f) (except a g) xs
    (λ w k. elim (same_or_not w a) [
      | inl e ↦ put_at-here a _ f w e ∙ sym (put_at-here a _ g w e)
      | inr n ↦ put_at-elsewhere a _ f w n ∙ h w k n ∙ sym (put_at-elsewhere a _ g w n)
    ]) in
    ap (λ t. t +ℚ g a) (sum_by-split f a xs d c ∙ ap (λ t. f a +ℚ t) rest)
    ∙ by_ring ring_ℚ (f a ∷ g a ∷ sum_by (except a g) xs ∷ []) ((at 0 ⊕ at 2) ⊕ at 1) ((at 1 ⊕ at 2) ⊕ at 0) refl
    ∙ ap (λ t. t +ℚ f a) (sym (sum_by-split g a xs d c))

-- the sign of a sum of products
pub signed-sum : (a : Bool) (e y : ℕ → Fraction) (xs : List ℕ) → opposite_if a (sum_by (λ w. e w *ℚ y w) xs) ≡ sum_by (λ w. opposite_if a (e w) *ℚ y w) xs
signed-sum true e y [] = by_ring ring_ℚ [] (pneg pnil) pnil refl
signed-sum true e y (x ∷ xs) =
    by_ring ring_ℚ (e x ∷ y x ∷ sum_by (λ w. e w *ℚ y w) xs ∷ []) (pneg (at 0 ⊗ at 1 ⊕ at 2)) (pneg (at 0) ⊗ at 1 ⊕ pneg (at 2)) refl
    ∙ ap (λ t. neg_ℚ (e x) *ℚ y x +ℚ t) (signed-sum true e y xs)
signed-sum false e y xs = refl
