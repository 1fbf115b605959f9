use Rattle.std.proofs.Common.{arith}
use Rattle.limit_rows.proofs.WalkLemmas.{rows_few}
use Rattle.price_dict.proofs.NamePlaces.{row_by_place}
use Rattle.price_dict.proofs.names.up_name.Goals as goal

pub overflow_mul-result : goal.overflow_mul-result
overflow_mul-result c =
    let market = c.lines-lines.ensures.market in
    omega (arith, (row_by_place c.args.market.now market c.args.row c.place_of.result c.place_of.ensures).0, rows_few c.args.market.now market)

pub overflow_add-result : goal.overflow_add-result
overflow_add-result c =
    let market = c.lines-lines.ensures.market in
    omega (arith, (row_by_place c.args.market.now market c.args.row c.place_of.result c.place_of.ensures).0, rows_few c.args.market.now market)

pub returns : goal.returns
returns c =
    let at = (row_by_place c.args.market.now c.lines-lines.ensures.market c.args.row c.place_of.result c.place_of.ensures).1 in
    omega (arith, at)
