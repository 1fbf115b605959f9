use Rattle.std.proofs.Common.{◌∙◌, ℤ, ◌-ℤ◌, ◌+ℤ◌, ap, arith, to_z, of_z}
use mir.Syntax.{w128}
use Rattle.std.proofs.lemmas.Int.{ints}
use Rattle.factor_residuals.proofs.LoopLemmas.{small_is}
use Rattle.factor_residuals.proofs.NodeLemmas.{missing-is}
use Rattle.factor_residuals.proofs.node_sums.missing_at.Goals as goal

pub returns-clause-is : goal.returns-clause-is
returns-clause-is c =
    let outflow = c.requires.node.outflow in
    let goes_in = c.requires.goes_in in
    let goes_out = c.requires.goes_out in
    ap (λ (z : ℤ). to_z w128 (of_z w128 z)) (c.from.ensures ∙ missing-is c.args.node.outflow c.args.goes_in c.args.goes_out (omega (arith, outflow)) goes_in goes_out)
    ∙ small_is (c.args.node.outflow -ℤ c.args.goes_in +ℤ c.args.goes_out) (omega (arith, ints, outflow, goes_in, goes_out))
