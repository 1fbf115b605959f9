-- Refused sums with a product, by the values of their parts.
use Rattle.std.specs.Prelude.{◌≡◌, ℕ, ◌<◌, pos, [], ◌∷◌, refl}
use Rattle.std.proofs.Common.{ap, ap₂, sym, ◌∙◌, subst, subst₂, inl, inr}
use Rattle.fraction_theory.specs.Fraction.{Fraction, whole, ◌+ℚ◌, ◌*ℚ◌, neg_ℚ, unsigned_abs-neg}
use Rattle.fraction_theory.proofs.FieldLaws.{ring_ℚ}
use Rattle.fraction_theory.proofs.Ring.{at, by_ring, pmul, pnil, ◌⊕◌}
use Rattle.exact_fraction.specs.declared.Op.{Op}
use Rattle.exact_fraction.specs.declared.Op.TheVariants.{Plus, Times}
use Rattle.exact_fraction.specs.declared.Passed.{Passed}
use Rattle.exact_fraction.specs.Passes.{IsPassed, IsPassedWith, IsShareRefused, IsTooLarge, IsTooLargeAt, Passes, ProductPasses}

-- the size of a number has no sign
pub too_large_turned : (bound : ℕ) (x : Fraction) → IsTooLarge bound x → IsTooLarge bound (neg_ℚ x)
unfolding neg_ℚ
too_large_turned bound x (inl h) = inl (subst (λ (n : ℕ). bound < n) (sym (unsigned_abs-neg x.num)) h)
too_large_turned bound x (inr h) = inr h

-- what passes does so by its values
pub passes_at : {N : Type 0} (value : N → Fraction) (bound : ℕ) (op : Op) (l r : N) (e : Passed N) → IsPassed value bound op l r e → Passes bound e.op (value e.left) (value e.right)
passes_at value bound op l r e h =
    subst (λ (o : Op). Passes bound o (value e.left) (value e.right)) (sym h.same_op)
    (subst₂ (Passes bound op) (sym (ap value h.same_left)) (sym (ap value h.same_right)) h.passes)

-- the sum with a product
pub share_refused : {N : Type 0} (value : N → Fraction) (bound : ℕ) (number first second : N) (e : Passed N) (x a b : Fraction)
    → IsPassedWith value bound number first second e → value number ≡ x → value first ≡ a → value second ≡ b → IsShareRefused bound x a b e.op (value e.left) (value e.right)
share_refused value bound number first second e x a b h ex ea eb = record {
  too_large = subst (IsTooLarge bound) (ap₂ ◌+ℚ◌ ex (ap₂ ◌*ℚ◌ ea eb)) h.too_large;
  passes = elim h.passed [ inl p ↦ passes_at value bound Times first second e p | inr p ↦ passes_at value bound Plus number p.0 e p.2 ];
  way = elim h.passed [
    | inl p ↦ inl (p.same_op, ap value p.same_left ∙ ea, ap value p.same_right ∙ eb)
    | inr p ↦ inr (p.2.same_op, ap value p.2.same_left ∙ ex, ap value p.2.same_right ∙ p.1 ∙ ap₂ ◌*ℚ◌ ea eb)
  ];
}

-- a sum whose second part is a product
pub sum_refused : {N : Type 0} (value : N → Fraction) (bound : ℕ) (left right : N) (e : Passed N) (x a b : Fraction)
    → IsTooLargeAt value bound Plus left right e → value left ≡ x → value right ≡ a *ℚ b → IsShareRefused bound x a b e.op (value e.left) (value e.right)
sum_refused value bound left right e x a b h ex ey = record {
  too_large = subst (IsTooLarge bound) (ap₂ ◌+ℚ◌ ex ey) h.too_large;
  passes = passes_at value bound Plus left right e h.passed;
  way = inr (h.passed.same_op, ap value h.passed.same_left ∙ ex, ap value h.passed.same_right ∙ ey);
}

-- a product, as one added to 0
pub product_refused : {N : Type 0} (value : N → Fraction) (bound : ℕ) (first second : N) (e : Passed N) (a b : Fraction)
    → IsPassed value bound Times first second e → value first ≡ a → value second ≡ b → IsShareRefused bound (whole (pos 0)) a b e.op (value e.left) (value e.right)
unfolding ProductPasses
product_refused value bound first second e a b h ea eb = record {
  too_large = subst (IsTooLarge bound) (ap₂ ◌*ℚ◌ ea eb ∙ by_ring ring_ℚ (a ∷ b ∷ []) (pmul (at 0) (at 1)) (pnil ⊕ pmul (at 0) (at 1)) refl) h.passes;
  passes = passes_at value bound Times first second e h;
  way = inl (h.same_op, ap value h.same_left ∙ ea, ap value h.same_right ∙ eb);
}
