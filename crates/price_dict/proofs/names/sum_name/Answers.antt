use Rattle.std.proofs.Common.{◌≡◌, ◌∙◌, ap, arith, length}
use Rattle.limit_rows.proofs.WalkLemmas.{rows_few}
use Rattle.price_dict.proofs.names.sum_name.Goals as goal

pub overflow_mul-result : goal.overflow_mul-result
overflow_mul-result c = omega (arith, c.requires, rows_few c.args.market.now c.lines-lines.ensures.market)

pub overflow_add-result : goal.overflow_add-result
overflow_add-result c = omega (arith, c.requires, rows_few c.args.market.now c.lines-lines.ensures.market)

pub overflow_add-result-2 : goal.overflow_add-result-2
overflow_add-result-2 c =
    let m = c.args.market.now in
    let market = c.lines-lines.ensures.market in
    let units : c.len.result ≡ length m.units = c.len.ensures ∙ ap length c.units.ensures.list in
    omega (arith, c.requires, rows_few m market, c.reserve_units_before.ensures.few, units, market.unit_count)
