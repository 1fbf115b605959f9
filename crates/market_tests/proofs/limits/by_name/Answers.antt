use Rattle.market_model.proofs.RowMembers.{at_places}
use Rattle.market_tests.proofs.limits.by_name.Goals as goal

pub name_at-requires-clause-line : goal.name_at-requires-clause-line
name_at-requires-clause-line c = (at_places c.args.market.now c.lines-lines.ensures.market c.in-Some.row c.in-Some.ensures.0).0

pub name_at-requires-clause-lost : goal.name_at-requires-clause-lost
name_at-requires-clause-lost c = (at_places c.args.market.now c.lines-lines.ensures.market c.in-Some.row c.in-Some.ensures.0).1

pub limit_at-requires : goal.limit_at-requires
limit_at-requires c = (at_places c.args.market.now c.lines-lines.ensures.market c.in-Some.row c.in-Some.ensures.0).0
