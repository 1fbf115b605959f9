use Rattle.std.proofs.Common.{◌≡◌, ◌∙◌, ap₂, subst}
use Rattle.std.specs.Prelude.{pos, ◌+ℤ◌, ◌*ℤ◌}
use Rattle.fraction_theory.specs.Signs.{abs_ℚ}
use Rattle.fraction_theory.specs.Order.{◌≤ℚ◌}
use Rattle.fraction_theory.proofs.FieldLaws.{whole-+ℚ}
use Rattle.limit_screen.proofs.BoundLemmas.{size_within}
use Rattle.limit_screen.proofs.Casts.{narrow_is, told_within}
use Rattle.limit_screen.proofs.bounds.is_within.Goals as goal

pub returns-then-flow-most : goal.returns-then-flow-most
returns-then-flow-most c = λ f near yes.
    let limit = c.args.limit in
    let more = c.args.more in
    let one = c.args.flow.one in
    let parts = c.args.flow.parts in
    let most = c.most_flow-most.result in
    let is : most ≡ (limit +ℤ more) *ℤ pos one = c.most_flow-most.ensures.is ∙ ap₂ (λ a b. (a +ℤ b) *ℤ pos one) (narrow_is limit c.ranges.limit) (narrow_is more c.ranges.more) in
    let both = told_within parts.number parts.off most c.requires.parts.number c.requires.parts.off c.most_flow-most.ensures.small c.if-flow-most.true yes in
    subst (λ x. abs_ℚ f ≤ℚ x) (whole-+ℚ limit more) (size_within f one parts (limit +ℤ more) most c.requires.above near is both.0 both.1)
