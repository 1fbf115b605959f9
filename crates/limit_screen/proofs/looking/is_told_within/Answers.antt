use Rattle.std.proofs.Common.{◌∙◌, ap, subst₂}
use Rattle.limit_screen.proofs.Casts.{narrow_is}
use Rattle.fraction_theory.specs.Fraction.{whole, ◌+ℚ◌}
use Rattle.fraction_theory.specs.Order.{◌≤ℚ◌}
use Rattle.fraction_theory.specs.Signs.{abs_ℚ}
use Rattle.market_model.specs.LimitRows.{flow_by, limit}
use Rattle.market_model.proofs.RowMembers.{at_places}
use Rattle.limit_screen.proofs.BoundLemmas.{overrun_within}
use Rattle.limit_screen.proofs.looking.is_told_within.Goals as goal

pub near_flow-requires-clause-line : goal.near_flow-requires-clause-line
near_flow-requires-clause-line c = (at_places c.args.market.now c.lines-lines.ensures.market c.args.row c.requires).0

pub near_flow-requires-clause-lost : goal.near_flow-requires-clause-lost
near_flow-requires-clause-lost c = (at_places c.args.market.now c.lines-lines.ensures.market c.args.row c.requires).1

pub limit_at-requires : goal.limit_at-requires
limit_at-requires c = (at_places c.args.market.now c.lines-lines.ensures.market c.args.row c.requires).0

pub returns-in-Some : goal.returns-in-Some
returns-in-Some c = λ carried parts yes.
    let m = c.args.market.now in
    let f = flow_by m carried c.args.row in
    let known = narrow_is c.limit_at.result (record { sfits = c.limit_at.type_inv }) in
    let size : abs_ℚ f ≤ℚ (limit m c.args.row +ℚ whole c.args.most) =
    subst₂ (λ l x. abs_ℚ f ≤ℚ (l +ℚ whole x)) (ap whole known ∙ c.limit_at.ensures.limit) (narrow_is c.args.most c.ranges.most) (c.is_within.ensures f (c.in-Some.ensures.near carried parts) yes) in
    overrun_within (abs_ℚ f) (limit m c.args.row) (whole c.args.most) size
