use Rattle.std.proofs.Common.{pos, [], ◌∷◌, ◌≡◌, ◌∙◌, ap, subst, refl}
use Rattle.fraction_theory.specs.Fraction.{Fraction, over, ◌+ℚ◌, ◌*ℚ◌}
use Rattle.fraction_theory.proofs.FieldLaws.{over-one, ring_ℚ}
use Rattle.fraction_theory.proofs.Ring.{at, by_ring, pmul, pone}
use Rattle.exact_fraction.specs.Passes.{IsTooLarge}
use Rattle.exact_fraction.proofs.sums.exact_sum.Goals as goal

one : (y : Fraction) → over (pos 1) 1 *ℚ y ≡ y
one y = ap (λ k. k *ℚ y) (over-one (pos 1)) ∙ by_ring ring_ℚ (y ∷ []) (pmul pone (at 0)) (at 0) refl

pub returns-in-Ok-plus_product : goal.returns-in-Ok-plus_product
returns-in-Ok-plus_product g c =
    let value = g.N.Exact.value in
    record { exact = c.in-Ok-plus_product.ensures.exact ∙ ap (λ k. value c.args.left +ℚ k *ℚ value c.args.right) c.of_parts.ensures ∙ ap (λ t. value c.args.left +ℚ t) (one (value c.args.right)) }

pub returns-in-Err-plus_product : goal.returns-in-Err-plus_product
returns-in-Err-plus_product g c =
    let value = g.N.Exact.value in
    let same = ap (λ k. value c.args.left +ℚ k *ℚ value c.args.right) c.of_parts.ensures ∙ ap (λ t. value c.args.left +ℚ t) (one (value c.args.right)) in
    record { too_large = subst (IsTooLarge g.N.Exact.bound) same c.in-Err-plus_product.ensures.too_large; passed = c.in-Err.ensures }
