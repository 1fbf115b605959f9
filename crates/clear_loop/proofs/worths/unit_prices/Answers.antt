use Rattle.std.proofs.Common.{◌∙◌, ap, length, subst, sym}
use Rattle.std.proofs.lemmas.Result.{IfOk-weaker, IfErr-weaker}
use Rattle.std.specs.Prelude.{List}
use Rattle.market_model.specs.Optimality.{own_price, unit_price, ArePricesOf}
use Rattle.market_model.specs.Valued.{duals_at, passed_at, total_at}
use Rattle.market_model.proofs.PlaceLists.{map_same}
use Rattle.market_model.proofs.StopLemmas.{on_passed_weaker}
use Rattle.clear_loop.proofs.AnswerLemmas.{price_count, prices_of}
use Rattle.clear_loop.proofs.FarkasSums.{own_refused, own_same}
use Rattle.clear_loop.proofs.worths.unit_prices.Goals as goal

pub own_prices-requires-clause-prices : goal.own_prices-requires-clause-prices
own_prices-requires-clause-prices g c =
    let value = g.N.Exact.value in
    ap length c.slice.ensures ∙ price_count value c.args.market.now (duals_at value c.args.duals.now) c.in_ok-prices.prices c.in_ok-prices.ensures.prices

pub returns-clause-own : goal.returns-clause-own
returns-clause-own g c =
    let m = c.args.market.now in
    let value = g.N.Exact.value in
    let d = duals_at value c.args.duals.now in
    let are = subst (λ (ps : List _). ArePricesOf m d (total_at value ps)) (sym c.slice.ensures) (prices_of value m d c.in_ok-prices.prices c.in_ok-prices.ensures.prices) in
    IfOk-weaker c.own_prices.result _ _
    (λ own is. is ∙ map_same (own_price m d (total_at value c.slice.result.now)) (unit_price m d) (length m.units) (own_same m d (total_at value c.slice.result.now) are c.units-units.ensures.market)) c.own_prices.ensures.own

pub returns-clause-stops : goal.returns-clause-stops
returns-clause-stops g c =
    let m = c.args.market.now in
    let value = g.N.Exact.value in
    let d = duals_at value c.args.duals.now in
    let are = subst (λ (ps : List _). ArePricesOf m d (total_at value ps)) (sym c.slice.ensures) (prices_of value m d c.in_ok-prices.prices c.in_ok-prices.ensures.prices) in
    IfErr-weaker c.own_prices.result _ _
    (λ stop why. on_passed_weaker stop _ _ (λ p h. own_refused m d (total_at value c.slice.result.now) are c.units-units.ensures.market g.N.Exact.bound (passed_at value p) h) why) c.own_prices.ensures.stops
