use Rattle.std.proofs.Common.{◌∙◌, ◌*◌, ◌-ℤ◌, ◌+ℤ◌, pos, ap, arith, w64}
use mir.Syntax.{w128}
use mathlib.Core.Path.{ap₂}
use Rattle.std.proofs.lemmas.Int.{to_z-of_z}
use Rattle.market_data.specs.Scales.{place_step}
use Rattle.market_data.specs.declared.scales.FactorPlaces.{FactorPlaces}
use Rattle.net_paths.specs.Loops.{kept}
use Rattle.factor_residuals.specs.Kirchhoff.{branches_at}
use Rattle.factor_residuals.proofs.LoopLemmas.{small_is}
use Rattle.factor_residuals.proofs.NodeLemmas.{spot-is}
use Rattle.factor_residuals.specs.declared.node_sums.Node.{Node}
use Rattle.factor_residuals.proofs.node_sums.bus_spot.Goals as goal

pub returns : goal.returns
returns c = λ factors places is.
    let size = c.missing_at.ensures.size in
    let branches = c.requires.within.branches in
    let one = to_z-of_z w64 c.one_at.result (record { sfits = c.one_at.type_inv }) ∙ c.one_at.ensures.is in
    let other = to_z-of_z w64 c.one_at-2.result (record { sfits = c.one_at-2.type_inv }) ∙ c.one_at-2.ensures.is in
    let outflow = ap (λ (n : Node). n.outflow) is in
    let count = branches_at (kept c.args.column.now.lost c.args.network.now.branches) c.args.bus in
    let bound = c.bound_at.ensures count (ap (λ (n : Node). n.branches) is) ∙ ap (λ (p : FactorPlaces). pos (5 * place_step p * count)) places in
    spot-is _ _ _ _ _ _ c.args.column.now.name
    (small_is c.missing_at.result (omega (arith, size)) ∙ c.missing_at.ensures.is ∙ ap₂ ◌+ℤ◌ (ap₂ ◌-ℤ◌ outflow one) other)
    (to_z-of_z w128 c.bound_at.result (record { sfits = c.bound_at.type_inv }) ∙ bound)
    c.bus_number.ensures
