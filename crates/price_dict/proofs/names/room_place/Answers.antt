use Rattle.std.proofs.Common.{◌∙◌, sym, arith}
use Rattle.price_dict.proofs.NamePlaces.{room_by_count, room_inside}
use Rattle.price_dict.proofs.names.room_place.Goals as goal

pub reserve_units_before-requires : goal.reserve_units_before-requires
reserve_units_before-requires c = let inside = room_inside c.args.market.now c.args.unit c.requires in omega (arith, inside)

pub returns-clause-place : goal.returns-clause-place
returns-clause-place c = c.reserve_units_before.ensures.count ∙ sym (room_by_count c.args.market.now c.lines-lines.ensures.market c.args.unit c.requires)

pub returns-clause-few : goal.returns-clause-few
returns-clause-few c = let inside = room_inside c.args.market.now c.args.unit c.requires in omega (arith, inside, c.reserve_units_before.ensures.few)
