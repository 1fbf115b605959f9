use Rattle.std.proofs.Common.{◌≡◌, ◌∙◌, ap, subst₂, w64}
use Rattle.std.proofs.lemmas.Int.{to_z-of_z}
use mir.Val.{to_z, of_z}
use Rattle.fraction_theory.specs.Fraction.{whole}
use Rattle.fraction_theory.specs.Order.{◌<ℚ◌, ◌≤ℚ◌}
use Rattle.market_model.specs.LimitRows.{limit}
use Rattle.limit_rows.proofs.FlowSizes.{not_past, not_passed, size_kept}
use Rattle.rights_test.proofs.fitting.is_within.Goals as goal

pub returns-in-Greater : goal.returns-in-Greater
returns-in-Greater g c =
    let known : to_z w64 (of_z w64 c.limit_at.result) ≡ c.limit_at.result = to_z-of_z w64 c.limit_at.result (record { sfits = c.limit_at.type_inv }) in
    λ within.
    not_passed (limit c.args.market.now c.args.row) (g.N.Exact.value c.args.flow) within
    (subst₂ (λ x y. x <ℚ y) (c.datum.ensures ∙ ap whole known ∙ c.limit_at.ensures.limit) c.size.ensures c.in-Greater.ensures)

pub returns-in-Less : goal.returns-in-Less
returns-in-Less g c =
    let known : to_z w64 (of_z w64 c.limit_at.result) ≡ c.limit_at.result = to_z-of_z w64 c.limit_at.result (record { sfits = c.limit_at.type_inv }) in
    let less = not_past c.order.result (g.N.Exact.value c.size.result) (g.N.Exact.value c.datum.result) c.order.ensures c.in-Less.is in
    size_kept (limit c.args.market.now c.args.row) (g.N.Exact.value c.args.flow) (subst₂ (λ x y. x ≤ℚ y) c.size.ensures (c.datum.ensures ∙ ap whole known ∙ c.limit_at.ensures.limit) less)
