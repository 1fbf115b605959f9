use Rattle.std.proofs.Common.{◌≡◌, ◌∙◌, ap, subst₂, sym, w64}
use Rattle.std.proofs.lemmas.Int.{to_z-of_z}
use mir.Val.{to_z, of_z}
use Rattle.fraction_theory.specs.Fraction.{whole}
use Rattle.fraction_theory.specs.Order.{◌<ℚ◌, ◌≤ℚ◌}
use Rattle.market_model.proofs.Excesses.{priced_flow-beyond, priced_flow-most}
use Rattle.limit_rows.proofs.FlowSizes.{not_past}
use Rattle.settlement.proofs.rows.priced_flow.Goals as goal

pub returns-in-Greater : goal.returns-in-Greater
returns-in-Greater g c =
    let value = g.N.Exact.value in
    let known : to_z w64 (of_z w64 c.limit_at.result) ≡ c.limit_at.result = to_z-of_z w64 c.limit_at.result (record { sfits = c.limit_at.type_inv }) in
    let limit = c.datum-limit.ensures ∙ ap whole known ∙ c.limit_at.ensures.limit in
    c.size-size.ensures ∙ sym (priced_flow-beyond c.args.market.now c.args.row (value c.args.flow) (subst₂ ◌<ℚ◌ limit c.size-size.ensures c.in-Greater.ensures))

pub returns-in-Less : goal.returns-in-Less
returns-in-Less g c =
    let value = g.N.Exact.value in
    let known : to_z w64 (of_z w64 c.limit_at.result) ≡ c.limit_at.result = to_z-of_z w64 c.limit_at.result (record { sfits = c.limit_at.type_inv }) in
    let limit = c.datum-limit.ensures ∙ ap whole known ∙ c.limit_at.ensures.limit in
    let below = not_past c.order.result (value c.size-size.result) (value c.datum-limit.result) c.order.ensures c.in-Less.is in
    limit ∙ sym (priced_flow-most c.args.market.now c.args.row (value c.args.flow) (subst₂ ◌≤ℚ◌ c.size-size.ensures limit below))
