use Rattle.std.proofs.Common.{◌∙◌, ap, length, map}
use Rattle.market_model.specs.Valued.{price_at}
use Rattle.plain_list.proofs.WrittenItems.{all_written}
use Rattle.settled_answer.proofs.repricing.bus_prices.Goals as goal

pub returns-clause-prices : goal.returns-clause-prices
returns-clause-prices g c =
    ap (map (price_at g.N.Exact.value)) (all_written c.loop.by_bus c.prices.new.out (c.in_ok-prices.ensures.count ∙ ap length c.slice_mut.ensures.value)) ∙ c.in_ok-prices.ensures.prices
