use Rattle.market_model.proofs.RowMembers.{at_places}
use Rattle.price_system.specs.declared.variables.Variable.TheVariants.{Up, Down}
use Rattle.price_dict.proofs.ColumnLists.{column_is_one}
use Rattle.price_dict.proofs.entries.energy_entry.Goals as goal

pub unit_factor-requires-clause-line : goal.unit_factor-requires-clause-line
unit_factor-requires-clause-line g c =
    let m = c.args.market.now in
    let listed = column_is_one m c.args.column (Up c.in-Up.row) c.in-Up.is c.requires.column in
    (at_places m c.lines-lines.ensures.market c.in-Up.row listed).0

pub unit_factor-requires-clause-lost : goal.unit_factor-requires-clause-lost
unit_factor-requires-clause-lost g c =
    let m = c.args.market.now in
    let listed = column_is_one m c.args.column (Up c.in-Up.row) c.in-Up.is c.requires.column in
    (at_places m c.lines-lines.ensures.market c.in-Up.row listed).1

pub unit_factor-requires-in-Down-clause-line : goal.unit_factor-requires-in-Down-clause-line
unit_factor-requires-in-Down-clause-line g c =
    let m = c.args.market.now in
    let listed = column_is_one m c.args.column (Down c.in-Down.row) c.in-Down.is c.requires.column in
    (at_places m c.lines-lines.ensures.market c.in-Down.row listed).0

pub unit_factor-requires-in-Down-clause-lost : goal.unit_factor-requires-in-Down-clause-lost
unit_factor-requires-in-Down-clause-lost g c =
    let m = c.args.market.now in
    let listed = column_is_one m c.args.column (Down c.in-Down.row) c.in-Down.is c.requires.column in
    (at_places m c.lines-lines.ensures.market c.in-Down.row listed).1
