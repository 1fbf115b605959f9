use Rattle.std.proofs.Common.{Err, ◌≡◌, ◌∙◌, ap, length, map, rules, subst}
use Rattle.market_model.specs.Dispatch.{dispatch_with}
use Rattle.market_model.specs.RightAnswers.{settlement_at}
use Rattle.market_model.specs.Valued.{answer_at, duals_at, money_at, total_at}
use Rattle.settlement.specs.Refusals.{IsMoneyStop}
use Rattle.settled_answer.proofs.SettledLemmas.{flows_read, money_stop, price_count, price_stop, prices_of, repriced_right}
use Rattle.settled_answer.proofs.repricing.priced.Goals as goal

pub settle_flows-requires-clause-flows : goal.settle_flows-requires-clause-flows
settle_flows-requires-clause-flows g c = flows_read g.N.Exact.value c.args.market.now c.args.answer.now c.args.flows.now c.slice.result.now c.requires.flows c.slice.ensures

pub settle_flows-requires-clause-prices : goal.settle_flows-requires-clause-prices
settle_flows-requires-clause-prices g c =
    ap length c.slice-3.ensures ∙ price_count g.N.Exact.value c.args.market.now (duals_at g.N.Exact.value c.args.duals) c.in_ok-prices.prices c.in_ok-prices.ensures.prices

pub returns-clause-fits : goal.returns-clause-fits
returns-clause-fits g c =
    let value = g.N.Exact.value in
    record {
      dispatch = c.requires.fits.dispatch;
      reserve = c.requires.fits.reserve;
      prices = price_count value c.args.market.now (duals_at value c.args.duals) c.in_ok-prices.prices c.in_ok-prices.ensures.prices;
      money = c.in_ok-money.ensures.fits;
    }

pub returns-clause-right : goal.returns-clause-right
returns-clause-right g c =
    let value = g.N.Exact.value in
    let m = c.args.market.now in
    let d = duals_at value c.args.duals in
    repriced_right value m c.args.answer.now (record { duals = c.args.duals; prices = c.in_ok-prices.prices; money = c.in_ok-money.money }) c.lines-lines.ensures.market c.requires.right c.requires.first c.in_ok-prices.ensures.prices
    (subst (λ ps. money_at value c.in_ok-money.money ≡ settlement_at m (dispatch_with (map value c.args.answer.now.dispatch) (map value c.args.answer.now.reserve)) (total_at value ps) d) c.slice-3.ensures
    (subst (λ rs. money_at value c.in_ok-money.money ≡ settlement_at m (dispatch_with (map value c.args.answer.now.dispatch) (map value rs)) (total_at value c.slice-3.result.now) d) c.slice-2.ensures
    (subst (λ ds. money_at value c.in_ok-money.money ≡ settlement_at m (dispatch_with (map value ds) (map value c.slice-2.result.now)) (total_at value c.slice-3.result.now) d) c.slice.ensures c.in_ok-money.ensures.money)))

pub returns-in_err-prices-clause-stops : goal.returns-in_err-prices-clause-stops
returns-in_err-prices-clause-stops g c =
    let value = g.N.Exact.value in
    let given : c.from_residual.result ≡ Err c.in_err-prices.field-0.0 = search rules in
    rw given
    (price_stop value g.N.Exact.bound c.args.market.now (answer_at value c.args.answer.now) (duals_at value c.args.duals) c.requires.first c.in_err-prices.field-0.0 c.in_err-prices.ensures.stops)

pub returns-in_err-money-clause-stops : goal.returns-in_err-money-clause-stops
returns-in_err-money-clause-stops g c =
    let value = g.N.Exact.value in
    let m = c.args.market.now in
    let d = duals_at value c.args.duals in
    let stop = c.in_err-money.field-0.0 in
    let price = total_at value c.in_ok-prices.prices in
    let given : c.from_residual-in_err-money.result ≡ Err stop = search rules in
    rw given
    (money_stop value g.N.Exact.bound m (answer_at value c.args.answer.now) d c.requires.first price (prices_of value m d c.in_ok-prices.prices c.in_ok-prices.ensures.prices) stop
    (subst (λ ps. IsMoneyStop value g.N.Exact.bound m (dispatch_with (map value c.args.answer.now.dispatch) (map value c.args.answer.now.reserve)) (total_at value ps) d stop) c.slice-3.ensures
    (subst (λ rs. IsMoneyStop value g.N.Exact.bound m (dispatch_with (map value c.args.answer.now.dispatch) (map value rs)) (total_at value c.slice-3.result.now) d stop) c.slice-2.ensures
    (subst (λ ds. IsMoneyStop value g.N.Exact.bound m (dispatch_with (map value ds) (map value c.slice-2.result.now)) (total_at value c.slice-3.result.now) d stop) c.slice.ensures c.in_err-money.ensures.stops))))
