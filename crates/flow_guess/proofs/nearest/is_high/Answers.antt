use Rattle.std.proofs.Common.{rules, arith, ◌∙◌, subst₂, inl, inr, to_z, of_z}
use mathlib.Core.Path.{ap₂}
use Rattle.std.proofs.lemmas.Int.{ints}
use Rattle.std.specs.Int.{w128}
use Rattle.std.specs.Prelude.{◌≡◌, pos, ◌+ℤ◌, ◌*ℤ◌, ◌≤ℤ◌, ◌<ℤ◌}
use Rattle.flow_guess.proofs.nearest.is_high.Goals as goal

pub returns-then-units-lt0 : goal.returns-then-units-lt0
returns-then-units-lt0 c = λ t.
    let x = to_z w128 (of_z w128 c.in_ok-twice.twice) in
    let y = to_z w128 (of_z w128 c.in_ok-edge.edge) in
    let part_is : to_z w128 (of_z w128 c.args.part) ≡ c.args.part = search rules in
    let edge_same : to_z w128 (of_z w128 c.in_ok-edge.edge) ≡ c.in_ok-edge.edge = search rules in
    let edge_is : to_z w128 (of_z w128 c.in_ok-edge.edge) ≡ c.args.part *ℤ (pos 2 *ℤ c.args.units +ℤ pos 1) = edge_same ∙ c.in_ok-edge.ensures.1 ∙ ap₂ ◌*ℤ◌ part_is (omega (arith, ints, c.from.ensures)) in
    let twice_is : to_z w128 (of_z w128 c.in_ok-twice.twice) ≡ pos 2 *ℤ c.args.most = omega (arith, ints, c.in_ok-twice.ensures.1) in
    let le : x ≤ℤ y = search (rules, t) in
    record { near = subst₂ ◌≤ℤ◌ twice_is edge_is le; tie = inl (search (rules, c.if-units-lt0.true)) }

pub returns-else-units-lt0 : goal.returns-else-units-lt0
returns-else-units-lt0 c = λ t.
    let x = to_z w128 (of_z w128 c.in_ok-twice.twice) in
    let y = to_z w128 (of_z w128 c.in_ok-edge.edge) in
    let part_is : to_z w128 (of_z w128 c.args.part) ≡ c.args.part = search rules in
    let edge_same : to_z w128 (of_z w128 c.in_ok-edge.edge) ≡ c.in_ok-edge.edge = search rules in
    let edge_is : to_z w128 (of_z w128 c.in_ok-edge.edge) ≡ c.args.part *ℤ (pos 2 *ℤ c.args.units +ℤ pos 1) = edge_same ∙ c.in_ok-edge.ensures.1 ∙ ap₂ ◌*ℤ◌ part_is (omega (arith, ints, c.from.ensures)) in
    let twice_is : to_z w128 (of_z w128 c.in_ok-twice.twice) ≡ pos 2 *ℤ c.args.most = omega (arith, ints, c.in_ok-twice.ensures.1) in
    let lt : x <ℤ y = search (rules, t) in
    let le : x ≤ℤ y = omega (arith, ints, lt) in
    record { near = subst₂ ◌≤ℤ◌ twice_is edge_is le; tie = inr (subst₂ ◌<ℤ◌ twice_is edge_is lt) }
