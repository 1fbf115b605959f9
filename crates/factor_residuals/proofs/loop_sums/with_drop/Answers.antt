use Rattle.std.proofs.Common.{◌∙◌, ◌+ℤ◌, ℤ, ap, arith}
use Rattle.std.proofs.Common.{w64, ◌*ℤ◌}
use mir.Syntax.{w128}
use mathlib.Core.Path.{ap₂}
use Rattle.std.proofs.lemmas.Int.{ints, to_z-of_z}
use Rattle.factor_residuals.specs.Kirchhoff.{directed}
use Rattle.factor_residuals.proofs.LoopLemmas.{loop_sum-is, sum-is}
use Rattle.factor_residuals.proofs.loop_sums.with_drop.Goals as goal

pub returns-clause-is : goal.returns-clause-is
returns-clause-is c =
    let miss = c.requires.loop_sum.miss in
    let sizes = c.requires.loop_sum.sizes in
    let drop = c.drop_over.ensures.size in
    let abs = c.abs.ensures.value in
    let reactance = c.requires.reactance in
    loop_sum-is _ _ _ _ (sum-is c.args.loop_sum.miss c.drop_over.result (omega (arith, miss)) (omega (arith, drop)) ∙ ap (λ (t : ℤ). c.args.loop_sum.miss +ℤ t) (c.drop_over.ensures.is ∙ ap₂ (λ (a b : ℤ). directed c.args.forward (a *ℤ b)) (to_z-of_z w128 c.args.reactance c.ranges.reactance) (to_z-of_z w64 c.args.flow c.ranges.flow)))
    (sum-is c.args.loop_sum.sizes c.abs.result (omega (arith, sizes)) (omega (arith, ints, abs, reactance)) ∙ ap (λ (t : ℤ). c.args.loop_sum.sizes +ℤ t) (omega (arith, ints, abs)))
