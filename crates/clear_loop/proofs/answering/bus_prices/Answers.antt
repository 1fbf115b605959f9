use Rattle.std.proofs.Common.{rules, Err, ◌≡◌, ◌∙◌, ap, length, map}
use Rattle.market_model.specs.declared.stops.Stop.TheVariants as why
use Rattle.market_model.specs.Valued.{duals_at, passed_at, price_at}
use Rattle.plain_list.proofs.WrittenItems.{all_written}
use Rattle.clear_loop.proofs.FarkasSums.{bus_prices_refused}
use Rattle.clear_loop.proofs.answering.bus_prices.Goals as goal

pub returns-in_err-prices-clause-stops : goal.returns-in_err-prices-clause-stops
returns-in_err-prices-clause-stops g c =
    let value = g.N.Exact.value in
    let given : c.from_residual-in_err-prices.result ≡ Err (why.Passed c.in_err-prices.field-0.0) = search rules in
    rw given (bus_prices_refused c.args.market.now (duals_at value c.args.duals.now) g.N.Exact.bound (passed_at value c.in_err-prices.field-0.0) c.in_err-prices.ensures.stops)

pub returns-clause-prices : goal.returns-clause-prices
returns-clause-prices g c =
    ap (map (price_at g.N.Exact.value)) (all_written c.loop.by_bus c.prices.new.out (c.in_ok-prices.ensures.count ∙ ap length c.slice_mut.ensures.value)) ∙ c.in_ok-prices.ensures.prices
