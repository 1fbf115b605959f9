use Rattle.std.proofs.Common.{rules, ◌≡◌, ◌∙◌, ◌+◌, ◌∷◌}
use Rattle.limit_rows.specs.Walk.{rows_from}
use Rattle.market_model.proofs.RowMembers.{row_on}
use Rattle.limit_rows.proofs.WalkLemmas.{cause_over, row_next}
use Rattle.limit_rows.proofs.walk.RowWalkIterator.next.Goals as goal

pub returns-in-Some-clause-steps : goal.returns-in-Some-clause-steps
returns-in-Some-clause-steps c =
    let walk = c.loop-self.self-inside in
    c.loop-self.invariant ∙ row_next walk.market.now walk.place walk.line c.in-Some.line c.cause_at-cause.result c.cause_at-cause.ensures.is c.in-Some.ensures.is

pub returns-in-Some-clause-goes : goal.returns-in-Some-clause-goes
returns-in-Some-clause-goes c =
    let walk = c.loop-self.self-inside in
    let e : c.args.self.now ≡ row_on c.cause_at-cause.result c.in-Some.line ∷ rows_from walk.market.now walk.place (c.in-Some.line + 1) =
    c.loop-self.invariant ∙ row_next walk.market.now walk.place walk.line c.in-Some.line c.cause_at-cause.result c.cause_at-cause.ensures.is c.in-Some.ensures.is in
    rw e (search rules)

pub loop-self-preserved : goal.loop-self-preserved
loop-self-preserved c =
    let walk = c.loop-self.self-inside in
    c.loop-self.invariant ∙ cause_over walk.market.now walk.place walk.line c.cause_at-cause.result c.cause_at-cause.ensures.is c.in_default.ensures.is
