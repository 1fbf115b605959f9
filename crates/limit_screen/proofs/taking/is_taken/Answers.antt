use Rattle.std.proofs.Common.{rules, ◌↔◌, IsTrue, Contains, subst, sym}
use Rattle.market_model.specs.LimitRows.{row_id}
use Rattle.limit_screen.specs.declared.taking.TakenRows.{TakenRows}
use Rattle.limit_screen.specs.Screening.{taken_rows}
use Rattle.market_model.proofs.RowMembers.{at_places}
use Rattle.limit_screen.proofs.TakenLemmas.{named_iff}
use Rattle.limit_screen.proofs.taking.is_taken.Goals as goal

pub name_at-requires-clause-line : goal.name_at-requires-clause-line
name_at-requires-clause-line c = (at_places c.args.market.now c.lines-lines.ensures.market c.args.row c.requires).0

pub name_at-requires-clause-lost : goal.name_at-requires-clause-lost
name_at-requires-clause-lost c = (at_places c.args.market.now c.lines-lines.ensures.market c.args.row c.requires).1

pub returns-in-Rows : goal.returns-in-Rows
returns-in-Rows c =
    let found : IsTrue c.contains.result ↔ Contains c.in-Rows.rows.now c.args.row = search rules in
    subst (λ (t : TakenRows). IsTrue c.contains.result ↔ Contains (taken_rows c.args.market.now t) c.args.row) (sym c.in-Rows.is) found

pub returns-in-Names : goal.returns-in-Names
returns-in-Names c =
    let m = c.args.market.now in
    let r = c.args.row in
    let ns = c.in-Names.names.now in
    let found : IsTrue c.contains-in-Names.result ↔ Contains ns (row_id m r) = search rules in
    subst (λ (t : TakenRows). IsTrue c.contains-in-Names.result ↔ Contains (taken_rows m t) r) (sym c.in-Names.is) (named_iff m ns r c.contains-in-Names.result c.requires found)
