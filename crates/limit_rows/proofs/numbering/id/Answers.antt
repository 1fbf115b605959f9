use Rattle.std.proofs.Common.{◌≡◌, Some, sym, ap, ◌∙◌}
use Rattle.market_model.specs.LimitRows.{row_id, rows}
use Rattle.market_model.proofs.RowMembers.{at_places}
use Rattle.limit_rows.proofs.PlaceLemmas.{listed, position_named}
use Rattle.limit_rows.proofs.numbering.id.Goals as goal

pub name_at-requires-clause-line : goal.name_at-requires-clause-line
name_at-requires-clause-line c =
    let m = c.args.market.now in
    (at_places m c.lines-lines.ensures.market c.row_at.result (listed (rows m) c.args.place c.row_at.result c.row_at.ensures)).0

pub name_at-requires-clause-lost : goal.name_at-requires-clause-lost
name_at-requires-clause-lost c =
    let m = c.args.market.now in
    (at_places m c.lines-lines.ensures.market c.row_at.result (listed (rows m) c.args.place c.row_at.result c.row_at.ensures)).1

pub returns-clause-is : goal.returns-clause-is
returns-clause-is c = λ r is.
    let same : Some c.row_at.result ≡ Some r = sym c.row_at.ensures ∙ is in
    let one : c.row_at.result ≡ r = cc in
    c.name_at.ensures ∙ ap (row_id c.args.market.now) one

pub returns-clause-position : goal.returns-clause-position
returns-clause-position c = position_named c.args.market.now c.lines-lines.ensures.market c.args.place _ c.row_at.result c.row_at.ensures c.name_at.ensures
