use Rattle.std.proofs.Common.{◌∙◌, ◌≤◌, ℤ, unsigned_abs, sym, subst, refl, arith}
use Rattle.std.proofs.Common.{w64}
use Rattle.std.proofs.lemmas.Int.{ints, to_z-of_z}
use Rattle.factor_residuals.proofs.LoopLemmas.{product_is, opposite_is, product-size}
use Rattle.factor_residuals.proofs.loop_sums.drop_over.Goals as goal

pub returns-then-forward-clause-is : goal.returns-then-forward-clause-is
returns-then-forward-clause-is c = product_is c.args.reactance c.args.flow c.from.result c.requires.reactance c.requires.flow (c.from.ensures ∙ to_z-of_z w64 c.args.flow c.ranges.flow)
    ∙ rw c.if-forward.true refl

pub returns-else-forward-clause-size : goal.returns-else-forward-clause-size
returns-else-forward-clause-size c =
    let size = product-size c.args.reactance c.args.flow c.requires.reactance c.requires.flow in
    subst (λ (n : ℤ). unsigned_abs n ≤ 10000000000000000000000000000000000) (sym (opposite_is c.args.reactance c.args.flow c.from.result c.requires.reactance c.requires.flow (c.from.ensures ∙ to_z-of_z w64 c.args.flow c.ranges.flow))) (omega (arith, ints, size))

pub returns-else-forward-clause-is : goal.returns-else-forward-clause-is
returns-else-forward-clause-is c = opposite_is c.args.reactance c.args.flow c.from.result c.requires.reactance c.requires.flow (c.from.ensures ∙ to_z-of_z w64 c.args.flow c.ranges.flow)
    ∙ rw c.if-forward.false refl
