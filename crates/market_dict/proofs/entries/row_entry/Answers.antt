use Rattle.std.proofs.Common.{rules, Err, ◌≡◌, ◌∙◌, ap}
use Rattle.market_model.specs.Dispatch.{signed_by_side}
use Rattle.market_model.proofs.RowMembers.{at_places}
use Rattle.market_dict.proofs.entries.row_entry.Goals as goal

pub unit_factor-requires-clause-line : goal.unit_factor-requires-clause-line
unit_factor-requires-clause-line g c = (at_places c.args.market.now c.lines-lines.ensures.market c.args.row c.requires.row).0

pub unit_factor-requires-clause-lost : goal.unit_factor-requires-clause-lost
unit_factor-requires-clause-lost g c = (at_places c.args.market.now c.lines-lines.ensures.market c.args.row c.requires.row).1

pub returns-clause-entry : goal.returns-clause-entry
returns-clause-entry g c = c.by_side.ensures ∙ ap (signed_by_side c.args.block.now.side) c.in_ok-unit_factor.ensures.factor

pub returns-in_err-unit_factor-clause-stops : goal.returns-in_err-unit_factor-clause-stops
returns-in_err-unit_factor-clause-stops g c =
    let given : c.from_residual.result ≡ Err c.in_err-unit_factor.field-0.0 = search rules in
    rw given c.in_err-unit_factor.ensures.stops
