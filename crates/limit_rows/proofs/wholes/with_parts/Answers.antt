use Rattle.std.proofs.Common.{◌∙◌, ap, ap₂}
use Rattle.fraction_theory.specs.Fraction.{◌+ℚ◌}
use Rattle.limit_rows.proofs.WholeLemmas.{number_kept, sum_made, sum_told, with_both}
use Rattle.limit_rows.proofs.wholes.with_parts.Goals as goal

pub returns : goal.returns
returns g c =
    let value = g.N.Exact.value in
    let flow = value c.args.flow in
    let kept = number_kept c.try_from.result _ _ c.in_ok-ok.field-0 c.try_from.ensures c.in_ok-ok.ensures.value in
    let first = sum_made value g.N.Exact.bound c.args.flow c.in_ok-quotient.quotient c.plus.result c.in_ok-ok-2.field-0 c.plus.ensures c.in_ok-ok-2.ensures.value in
    sum_told value g.N.Exact.bound c.in_ok-ok-2.field-0 c.of_parts-rest.result c.plus-2.result c.ok-3.result _ c.plus-2.ensures c.ok-3.ensures.value
    (ap₂ ◌+ℚ◌ (first ∙ ap (λ t. flow +ℚ t) c.in_ok-quotient.ensures.value) c.of_parts-rest.ensures ∙ with_both c.args.parts c.from-one.result c.ranges.parts c.from-one.ensures flow c.in_ok-ok.field-0 kept.0 kept.1)
