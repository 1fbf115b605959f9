use Rattle.std.proofs.Common.{◌≡◌, ◌∙◌, arith, ap, length}
use Rattle.limit_rows.proofs.WalkLemmas.{rows_few}
use Rattle.market_dict.proofs.names.first_offer_name.Goals as goal

pub overflow_mul-result : goal.overflow_mul-result
overflow_mul-result c = omega (arith, rows_few c.args.market.now c.lines-lines.ensures.market, c.requires)

pub overflow_add-result-2 : goal.overflow_add-result-2
overflow_add-result-2 c =
    let m = c.args.market.now in
    let market = c.lines-lines.ensures.market in
    let blocks : c.len.result ≡ length m.blocks = c.len.ensures ∙ ap length c.blocks-2.ensures.list in
    omega (arith, rows_few m market, market.block_count, blocks, c.requires)

pub returns : goal.returns
returns c =
    let blocks : c.len.result ≡ length c.args.market.now.blocks = c.len.ensures ∙ ap length c.blocks-2.ensures.list in
    omega (arith, blocks, c.requires)
