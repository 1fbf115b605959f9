use Rattle.std.proofs.Common.{◌≡◌, ◌∙◌, arith, ap, length}
use Rattle.market_dict.proofs.EntryLemmas.{name_at_place, over_at_place}
use Rattle.limit_rows.proofs.WalkLemmas.{rows_few}
use Rattle.market_dict.proofs.names.over_name.Goals as goal

pub overflow_add-result-2 : goal.overflow_add-result-2
overflow_add-result-2 c =
    let m = c.args.market.now in
    let market = c.lines-lines.ensures.market in
    let blocks : c.len.result ≡ length m.blocks = c.len.ensures ∙ ap length c.blocks-2.ensures.list in
    omega (arith, rows_few m market, market.block_count, blocks, c.count.ensures)

pub overflow_mul-result : goal.overflow_mul-result
overflow_mul-result c =
    let m = c.args.market.now in
    let market = c.lines-lines.ensures.market in
    let at = name_at_place m market c.args.row c.place_of.result c.place_of.ensures in
    omega (arith, at.0, rows_few m market)

pub overflow_add-result-3 : goal.overflow_add-result-3
overflow_add-result-3 c =
    let m = c.args.market.now in
    let market = c.lines-lines.ensures.market in
    let at = name_at_place m market c.args.row c.place_of.result c.place_of.ensures in
    let blocks : c.len.result ≡ length m.blocks = c.len.ensures ∙ ap length c.blocks-2.ensures.list in
    omega (arith, at.0, rows_few m market, market.block_count, blocks, c.count.ensures)

pub returns : goal.returns
returns c =
    let m = c.args.market.now in
    let at = over_at_place m c.lines-lines.ensures.market c.args.row c.place_of.result c.place_of.ensures in
    let blocks : c.len.result ≡ length m.blocks = c.len.ensures ∙ ap length c.blocks-2.ensures.list in
    omega (arith, at, blocks, c.count.ensures)
