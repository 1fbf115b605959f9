use Rattle.std.proofs.Common.{rules, ◌∙◌, sym, length, to_z, of_z}
use Rattle.std.specs.Int.{w128}
use mathlib.Core.Path.{ap₂}
use Rattle.std.specs.Prelude.{◌≡◌, ℤ, pos, ◌+ℤ◌, ◌==◌, if◌then◌else◌}
use Rattle.fraction_theory.specs.Fraction.{Fraction, whole, ◌+ℚ◌, ◌-ℚ◌}
use Rattle.fraction_theory.specs.Signs.{abs_ℚ}
use Rattle.fraction_theory.proofs.FieldLaws.{whole-+ℚ}
use Rattle.network_theory.specs.Networks.{net_outflow}
use Rattle.flow_guess.specs.Links.{link_network}
use Rattle.flow_guess.specs.Guesses.{low_flow, high_flow, error_at, wanted_at}
use Rattle.flow_guess.proofs.NetSums.{of_checked, where_same, where_other}
use Rattle.flow_guess.proofs.bounds.error.Goals as goal

pub returns-then-bus-reference : goal.returns-then-bus-reference
returns-then-bus-reference c = sym (where_same c.args.bus c.args.reference (whole (pos 0)) _ c.if-bus-reference.true)

pub returns : goal.returns
returns c =
    let g = c.args.guess.now in
    let t = c.args.transfer.now in
    let n = link_network (length g.angles.items) c.args.links.now in
    let bus = c.args.bus in
    let low = net_outflow n (low_flow g) (high_flow g) bus in
    let high = net_outflow n (high_flow g) (low_flow g) bus in
    let w = wanted_at t bus in
    let put_in : to_z w128 (of_z w128 c.in_ok-put_in.put_in) ≡ c.in_ok-put_in.put_in = search rules in
    let least : to_z w128 (of_z w128 c.in_ok-out.out.least) ≡ c.in_ok-out.out.least = search rules in
    let most : to_z w128 (of_z w128 c.in_ok-out.out.most) ≡ c.in_ok-out.out.most = search rules in
    let below : whole c.in_ok-apart.field-0 ≡ abs_ℚ (w -ℚ low) = c.in_ok-apart.ensures ∙ ap₂ (λ (x y : ℤ). abs_ℚ (whole x -ℚ whole y)) put_in least ∙ ap₂ (λ (x y : Fraction). abs_ℚ (x -ℚ y)) c.in_ok-put_in.ensures c.in_ok-out.ensures.least in
    let above : whole c.in_ok-apart-2.field-0 ≡ abs_ℚ (high -ℚ w) = c.in_ok-apart-2.ensures ∙ ap₂ (λ (x y : ℤ). abs_ℚ (whole x -ℚ whole y)) most put_in ∙ ap₂ (λ (x y : Fraction). abs_ℚ (x -ℚ y)) c.in_ok-out.ensures.most c.in_ok-put_in.ensures in
    let below_is : to_z w128 (of_z w128 c.in_ok-apart.field-0) ≡ c.in_ok-apart.field-0 = search rules in
    let above_is : to_z w128 (of_z w128 c.in_ok-apart-2.field-0) ≡ c.in_ok-apart-2.field-0 = search rules in
    of_checked (λ (parts : ℤ). whole parts ≡ (if bus == c.args.reference then whole (pos 0) else error_at n g t bus)) c.checked_add.result _ _ c.checked_add.ensures
    (ap₂ (λ (x y : ℤ). whole (x +ℤ y)) below_is above_is ∙ whole-+ℚ c.in_ok-apart.field-0 c.in_ok-apart-2.field-0 ∙ ap₂ ◌+ℚ◌ below above ∙ sym (where_other bus c.args.reference (whole (pos 0)) (error_at n g t bus) c.if-bus-reference.false))
