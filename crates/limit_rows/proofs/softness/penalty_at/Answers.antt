use Rattle.std.proofs.Common.{rules, ◌≡◌, ◌≤ℤ◌, ◌∙◌, ℤ, pos, w64, to_z, of_z, ap, ap₂, sym, subst, Bool}
use Rattle.fraction_theory.specs.Fraction.{whole}
use Rattle.market_model.specs.declared.participants.Line.{Line}
use Rattle.market_model.specs.LimitRows.{penalty_of}
use Rattle.limit_rows.proofs.LineLemmas.{line_here, line_is}
use Rattle.limit_rows.proofs.softness.penalty_at.Goals as goal

pub returns-then-is_outage-clause-sign : goal.returns-then-is_outage-clause-sign
returns-then-is_outage-clause-sign c =
    let given : to_z w64 (of_z w64 c.at-line.result.now.post_price) ≡ c.at-line.result.now.post_price = search rules in
    subst (λ (price : ℤ). pos 0 ≤ℤ price) (sym given)
    (line_is c.args.market.now c.lines.result.now c.args.row.line c.at-line.result.now c.lines.ensures.list c.at-line.ensures c.lines.ensures.market).post_penalty.costs

pub returns-then-is_outage-clause-penalty : goal.returns-then-is_outage-clause-penalty
returns-then-is_outage-clause-penalty c =
    let given : to_z w64 (of_z w64 c.at-line.result.now.post_price) ≡ c.at-line.result.now.post_price = search rules in
    let same = line_here c.args.market.now c.lines.result.now c.args.row.line c.at-line.result.now c.lines.ensures.list c.at-line.ensures in
    ap whole given ∙ ap₂ (λ (post : Bool) (line : Line). whole (penalty_of post line)) c.if-is_outage.ensures (sym same)

pub returns-else-is_outage-clause-sign : goal.returns-else-is_outage-clause-sign
returns-else-is_outage-clause-sign c =
    let given : to_z w64 (of_z w64 c.at-line.result.now.base_price) ≡ c.at-line.result.now.base_price = search rules in
    subst (λ (price : ℤ). pos 0 ≤ℤ price) (sym given)
    (line_is c.args.market.now c.lines.result.now c.args.row.line c.at-line.result.now c.lines.ensures.list c.at-line.ensures c.lines.ensures.market).base_penalty.costs

pub returns-else-is_outage-clause-penalty : goal.returns-else-is_outage-clause-penalty
returns-else-is_outage-clause-penalty c =
    let given : to_z w64 (of_z w64 c.at-line.result.now.base_price) ≡ c.at-line.result.now.base_price = search rules in
    let same = line_here c.args.market.now c.lines.result.now c.args.row.line c.at-line.result.now c.lines.ensures.list c.at-line.ensures in
    ap whole given ∙ ap₂ (λ (post : Bool) (line : Line). whole (penalty_of post line)) c.if-is_outage.ensures (sym same)
