use Rattle.std.proofs.Common.{◌≡◌, ◌∙◌, arith, ap, length}
use Rattle.limit_rows.proofs.WalkLemmas.{rows_few}
use Rattle.market_model.specs.declared.participants.Reserve.{Reserve}
use Rattle.market_dict.proofs.names.need_name.Goals as goal

pub overflow_add-result : goal.overflow_add-result
overflow_add-result c =
    let m = c.args.market.now in
    let market = c.lines-lines.ensures.market in
    let offers : c.len.result ≡ length m.reserve.offers = c.len.ensures ∙ ap (λ (r : Reserve). length r.offers) c.reserve.ensures.reserve in
    omega (arith, rows_few m market, market.block_count, market.reserve.count, offers, c.first_offer_name.ensures)

pub returns : goal.returns
returns c =
    let offers : c.len.result ≡ length c.args.market.now.reserve.offers = c.len.ensures ∙ ap (λ (r : Reserve). length r.offers) c.reserve.ensures.reserve in
    omega (arith, offers, c.first_offer_name.ensures)
