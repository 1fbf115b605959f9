use Rattle.std.proofs.Common.{arith}
use Rattle.limit_rows.proofs.WalkLemmas.{rows_few}
use Rattle.market_dict.proofs.names.offer_name_behind.Goals as goal

pub overflow_add-result : goal.overflow_add-result
overflow_add-result c =
    let m = c.args.market.now in
    let market = c.lines-lines.ensures.market in
    omega (arith, c.requires.first, c.requires.place, rows_few m market, market.block_count, market.reserve.count)

pub overflow_cast-result : goal.overflow_cast-result
overflow_cast-result c =
    let m = c.args.market.now in
    let market = c.lines-lines.ensures.market in
    omega (arith, c.requires.first, c.requires.place, rows_few m market, market.block_count, market.reserve.count)

pub returns : goal.returns
returns c = omega (arith, c.requires.first)
