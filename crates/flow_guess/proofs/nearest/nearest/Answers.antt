use Rattle.std.proofs.Common.{rules, ◌≡◌, sym, subst, subst₂, to_z, of_z}
use Rattle.std.specs.Int.{w64, w128}
use Rattle.std.specs.Prelude.{ℤ, pos, ◌<ℤ◌}
use Rattle.fraction_theory.specs.Fraction.{whole, ◌*ℚ◌}
use Rattle.fraction_theory.specs.Order.{◌≤ℚ◌}
use Rattle.exact_fraction.specs.Nearest.{in_units}
use Rattle.flow_guess.proofs.Rounds.{all_nearest}
use Rattle.flow_guess.proofs.nearest.nearest.Goals as goal

pub returns-then-branch-2 : goal.returns-then-branch-2
returns-then-branch-2 c = λ places q low high.
    let range = c.args.range.now in
    let least : to_z w128 (of_z w128 range.least) ≡ range.least = search rules in
    let most : to_z w128 (of_z w128 range.most) ≡ range.most = search rules in
    let part : to_z w128 (of_z w128 c.args.part) ≡ c.args.part = search rules in
    all_nearest (to_z w64 (of_z w64 c.in_ok-units.units)) (to_z w128 (of_z w128 range.least)) (to_z w128 (of_z w128 range.most)) (to_z w128 (of_z w128 c.args.part))
    (subst (λ (z : ℤ). pos 0 <ℤ z) (sym part) c.requires) (c.in_ok-is_low.ensures c.if-branch.true) (c.in_ok-is_high.ensures c.if-branch-2.true) places q
    (subst₂ (λ (x y : ℤ). whole x ≤ℚ (whole y *ℚ in_units places q)) (sym least) (sym part) low)
    (subst₂ (λ (x y : ℤ). (whole x *ℚ in_units places q) ≤ℚ whole y) (sym part) (sym most) high)
