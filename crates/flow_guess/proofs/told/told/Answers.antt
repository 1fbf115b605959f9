use Rattle.std.proofs.Common.{rules, ◌≡◌, ◌∙◌, ap, sym, subst₂, to_z, of_z}
use mathlib.Core.Path.{ap₂}
use Rattle.std.specs.Int.{w128}
use Rattle.std.specs.Prelude.{ℤ, ◌+ℤ◌, ◌-ℤ◌}
use Rattle.fraction_theory.specs.Fraction.{whole, ◌+ℚ◌, ◌-ℚ◌, ◌*ℚ◌}
use Rattle.fraction_theory.specs.Order.{◌≤ℚ◌}
use Rattle.fraction_theory.proofs.FieldLaws.{whole-+ℚ}
use Rattle.exact_fraction.specs.Nearest.{in_units}
use Rattle.flow_guess.specs.Links.{link_branch}
use Rattle.flow_guess.specs.Guesses.{low_flow, high_flow}
use Rattle.flow_guess.proofs.NetSums.{whole_minus}
use Rattle.flow_guess.proofs.told.told.Goals as goal

pub returns : goal.returns
returns c = λ places q within.
    let b = link_branch c.args.link.now in
    let flow = c.in_ok-flow.flow in
    let e = c.in_ok-error.error in
    let it = within e c.in_ok-error.was in
    let error : to_z w128 (of_z w128 e) ≡ e = search rules in
    let low : to_z w128 (of_z w128 flow.least) ≡ flow.least = search rules in
    let high : to_z w128 (of_z w128 flow.most) ≡ flow.most = search rules in
    let least : to_z w128 (of_z w128 c.in_ok-least.least) ≡ c.in_ok-least.least = search rules in
    let most : to_z w128 (of_z w128 c.in_ok-most.most) ≡ c.in_ok-most.most = search rules in
    let part : to_z w128 (of_z w128 c.args.part) ≡ c.args.part = search rules in
    let least_is : whole (to_z w128 (of_z w128 c.in_ok-least.least)) ≡ low_flow c.args.guess.now b -ℚ whole e =
    ap whole (least ∙ c.in_ok-least.ensures.1 ∙ ap₂ ◌-ℤ◌ low error) ∙ whole_minus flow.least e ∙ ap (λ (z : ℤ). whole z -ℚ whole e) c.in_ok-flow.ensures.least_is in
    let most_is : whole (to_z w128 (of_z w128 c.in_ok-most.most)) ≡ high_flow c.args.guess.now b +ℚ whole e =
    ap whole (most ∙ c.in_ok-most.ensures.1 ∙ ap₂ ◌+ℤ◌ high error) ∙ whole-+ℚ flow.most e ∙ ap (λ (z : ℤ). whole z +ℚ whole e) c.in_ok-flow.ensures.most_is in
    let units : whole (to_z w128 (of_z w128 c.args.part)) *ℚ in_units places q ≡ whole c.args.part *ℚ in_units places q = ap (λ (z : ℤ). whole z *ℚ in_units places q) part in
    c.nearest.ensures places q (subst₂ ◌≤ℚ◌ (sym least_is) (sym units) it.low) (subst₂ ◌≤ℚ◌ (sym units) (sym most_is) it.high)
