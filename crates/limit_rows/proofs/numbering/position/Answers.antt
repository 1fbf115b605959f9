use Rattle.std.proofs.Common.{sym}
use Rattle.market_model.specs.LimitRows.{rows}
use Rattle.limit_rows.specs.Naming.{has_name}
use Rattle.limit_rows.proofs.PlaceLemmas.{name_of_position, none_named, position_named}
use Rattle.limit_rows.proofs.PositionLemmas.{position-none}
use Rattle.limit_rows.proofs.numbering.position.Goals as goal

pub returns-in-Some-clause-is : goal.returns-in-Some-clause-is
returns-in-Some-clause-is c = sym (position_named c.args.market.now c.lines-lines.ensures.market c.place_of.result c.args.row c.in-Some.named c.place_of.ensures (sym c.in-Some.ensures.1))

pub returns-in-Some-clause-id : goal.returns-in-Some-clause-id
returns-in-Some-clause-id c =
    name_of_position c.args.market.now c.args.row c.place_of.result
    (position_named c.args.market.now c.lines-lines.ensures.market c.place_of.result c.args.row c.in-Some.named c.place_of.ensures (sym c.in-Some.ensures.1))

pub returns-in-None-clause-is : goal.returns-in-None-clause-is
returns-in-None-clause-is c =
    let m = c.args.market.now in
    sym (position-none (has_name m c.args.row) (rows m) (none_named m c.args.row c.in-None.ensures))
