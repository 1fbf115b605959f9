use Rattle.std.proofs.Common.{map, subst}
use Rattle.std.specs.Prelude.{MatchOption, Option}
use Rattle.market_model.specs.declared.limits.Row.{Row}
use Rattle.market_model.specs.LimitRows.{rows}
use Rattle.market_model.proofs.RowMembers.{at_places}
use Rattle.limit_screen.specs.Flows.{carried_at}
use Rattle.limit_screen.specs.Screening.{AllKeep, IsWorstBy, rows_named}
use Rattle.limit_screen.proofs.ScreenLemmas.{listed_row}
use Rattle.limit_screen.proofs.screening.worst.Given.{Over}
use Rattle.limit_screen.proofs.screening.worst.Goals as goal
use Rattle.limit_screen.proofs.screening.worst.Goals.{In-Some}

-- the worst of the rows of these names
worst_of_named : (g : Over) (c : In-Some g) → let m = c.args.market.now in IsWorstBy m (rows_named m c.args.taken.now) (carried_at m (map g.N.Exact.value c.args.flows.now)) c.in-Some.row
worst_of_named g c =
    let m = c.args.market.now in
    let taken = rows_named m c.args.taken.now in
    let f = carried_at m (map g.N.Exact.value c.args.flows.now) in
    subst (λ (o : Option Row). MatchOption o (AllKeep m taken f) (IsWorstBy m taken f)) c.in-Some.is c.in_ok-row.ensures.worst

pub name_at-requires-clause-line : goal.name_at-requires-clause-line
name_at-requires-clause-line g c =
    let m = c.args.market.now in
    let worst = worst_of_named g (goal.at.name_at-requires-clause-line g c).In-Some in
    (at_places m c.lines-lines.ensures.market c.in-Some.row (listed_row (rows m) worst.0 c.in-Some.row worst.1.stands)).0

pub name_at-requires-clause-lost : goal.name_at-requires-clause-lost
name_at-requires-clause-lost g c =
    let m = c.args.market.now in
    let worst = worst_of_named g (goal.at.name_at-requires-clause-lost g c).In-Some in
    (at_places m c.lines-lines.ensures.market c.in-Some.row (listed_row (rows m) worst.0 c.in-Some.row worst.1.stands)).1
