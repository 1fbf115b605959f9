use Rattle.std.proofs.Common.{◌≡◌, ◌∙◌, ap, arith, length}
use Rattle.limit_rows.proofs.WalkLemmas.{rows_few}
use Rattle.market_system.proofs.RowOrder.{row_place-below}
use Rattle.price_system.specs.declared.variables.Variable.TheVariants.{Up, Down, Room, Block, Offer}
use Rattle.price_dict.proofs.NamePlaces.{is_one, sum_small, worths_count}
use Rattle.price_dict.proofs.names.name_of.Goals as goal

pub up_name-requires : goal.up_name-requires
up_name-requires c = is_one c.args.market.now c.args.variable (Up c.in-Up.row) c.in-Up.is c.requires.variable

pub overflow_cast-result : goal.overflow_cast-result
overflow_cast-result c =
    let m = c.args.market.now in
    let below = row_place-below m c.in-Up.row (is_one m c.args.variable (Up c.in-Up.row) c.in-Up.is c.requires.variable) in
    omega (arith, below, rows_few m c.lines-lines.ensures.market, c.up_name.ensures)

pub up_name-requires-in-Down : goal.up_name-requires-in-Down
up_name-requires-in-Down c = is_one c.args.market.now c.args.variable (Down c.in-Down.row) c.in-Down.is c.requires.variable

pub overflow_cast-result-in-Down : goal.overflow_cast-result-in-Down
overflow_cast-result-in-Down c =
    let m = c.args.market.now in
    let below = row_place-below m c.in-Down.row (is_one m c.args.variable (Down c.in-Down.row) c.in-Down.is c.requires.variable) in
    omega (arith, below, rows_few m c.lines-lines.ensures.market, c.up_name-in-Down.ensures)

pub overflow_mul-result : goal.overflow_mul-result
overflow_mul-result c = omega (arith, c.requires.limits, rows_few c.args.market.now c.lines-lines.ensures.market)

pub overflow_add-result-in-Room : goal.overflow_add-result-in-Room
overflow_add-result-in-Room c = omega (arith, c.requires.limits, rows_few c.args.market.now c.lines-lines.ensures.market)

pub room_place-requires : goal.room_place-requires
room_place-requires c = is_one c.args.market.now c.args.variable (Room c.in-Room.unit) c.in-Room.is c.requires.variable

pub overflow_add-result-in-Room-2 : goal.overflow_add-result-in-Room-2
overflow_add-result-in-Room-2 c =
    let market = c.lines-lines.ensures.market in
    omega (arith, c.requires.limits, rows_few c.args.market.now market, c.room_place.ensures.few, market.unit_count)

pub overflow_cast-result-in-Room : goal.overflow_cast-result-in-Room
overflow_cast-result-in-Room c =
    let market = c.lines-lines.ensures.market in
    omega (arith, c.requires.limits, rows_few c.args.market.now market, c.room_place.ensures.few, market.unit_count)

pub overflow_cast-result-in-Sum : goal.overflow_cast-result-in-Sum
overflow_cast-result-in-Sum c = omega (arith, c.sum_name.ensures, sum_small c.args.market.now c.lines-lines.ensures.market)

pub overflow_add-place : goal.overflow_add-place
overflow_add-place c =
    let m = c.args.market.now in
    let inside = is_one m c.args.variable (Block c.in-Block.place) c.in-Block.is c.requires.variable in
    omega (arith, inside, c.lines-lines.ensures.market.block_count)

pub row_name_behind-requires-clause-place : goal.row_name_behind-requires-clause-place
row_name_behind-requires-clause-place c =
    let m = c.args.market.now in
    let inside = is_one m c.args.variable (Block c.in-Block.place) c.in-Block.is c.requires.variable in
    omega (arith, inside, worths_count m)

pub overflow_add-blocks-in-Offer : goal.overflow_add-blocks-in-Offer
overflow_add-blocks-in-Offer c =
    let m = c.args.market.now in
    let inside = is_one m c.args.variable (Offer c.in-Offer.place) c.in-Offer.is c.requires.variable in
    let blocks : c.len-blocks.result ≡ length m.blocks = c.len-blocks.ensures ∙ ap length c.blocks-in-Offer.ensures.list in
    omega (arith, inside, blocks, c.lines-lines.ensures.market.block_count, c.lines-lines.ensures.market.reserve.count)

pub row_name_behind-requires-in-Offer-clause-place : goal.row_name_behind-requires-in-Offer-clause-place
row_name_behind-requires-in-Offer-clause-place c =
    let m = c.args.market.now in
    let inside = is_one m c.args.variable (Offer c.in-Offer.place) c.in-Offer.is c.requires.variable in
    let blocks : c.len-blocks.result ≡ length m.blocks = c.len-blocks.ensures ∙ ap length c.blocks-in-Offer.ensures.list in
    omega (arith, inside, blocks, worths_count m)
