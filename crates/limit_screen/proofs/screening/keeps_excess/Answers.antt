use Rattle.std.proofs.Common.{◌≡◌, ◌∙◌, ap, subst, subst₂, w64}
use Rattle.std.proofs.lemmas.Int.{to_z-of_z}
use mir.Val.{to_z, of_z}
use Rattle.fraction_theory.specs.Fraction.{whole}
use Rattle.fraction_theory.specs.Order.{◌<ℚ◌, ◌≤ℚ◌}
use Rattle.market_model.specs.Dispatch.{zero}
use Rattle.market_model.proofs.RowMembers.{at_places}
use Rattle.limit_rows.proofs.FlowSizes.{not_past}
use Rattle.limit_screen.specs.Screening.{taken_rows}
use Rattle.limit_screen.proofs.ScreenLemmas.{beyond_most}
use Rattle.limit_screen.proofs.TakenLemmas.{keeps_iff}
use Rattle.limit_screen.proofs.screening.keeps_excess.Goals as goal

pub most_excess_at-requires : goal.most_excess_at-requires
most_excess_at-requires g c = (at_places c.args.market.now c.lines-lines.ensures.market c.args.row c.requires.row).0

pub returns-in-Greater : goal.returns-in-Greater
returns-in-Greater g c = λ f is.
    let taken = taken_rows c.args.market.now c.args.taken in
    let known : to_z w64 (of_z w64 c.most_excess_at.result) ≡ c.most_excess_at.result = to_z-of_z w64 c.most_excess_at.result (record { sfits = c.most_excess_at.type_inv }) in
    beyond_most c.args.market.now taken c.args.row f (subst (λ x. zero <ℚ x) is c.requires.passed) (subst₂ (λ x y. x <ℚ y) (c.datum.ensures ∙ ap whole known ∙ c.most_excess_at.ensures.excess) is c.in-Greater.ensures)

pub returns-in-Less : goal.returns-in-Less
returns-in-Less g c = λ f is.
    let taken = taken_rows c.args.market.now c.args.taken in
    let known : to_z w64 (of_z w64 c.most_excess_at.result) ≡ c.most_excess_at.result = to_z-of_z w64 c.most_excess_at.result (record { sfits = c.most_excess_at.type_inv }) in
    let less = not_past c.order.result (g.N.Exact.value c.args.overrun) (g.N.Exact.value c.datum.result) c.order.ensures c.in-Less.is in
    keeps_iff c.args.market.now taken c.args.row f c.is_taken.result c.is_taken.ensures (subst (λ x. zero <ℚ x) is c.requires.passed) (subst₂ (λ x y. x ≤ℚ y) is (c.datum.ensures ∙ ap whole known ∙ c.most_excess_at.ensures.excess) less)
