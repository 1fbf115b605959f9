use Rattle.std.proofs.Common.{length}
use Rattle.market_model.specs.Valued.{price_at}
use Rattle.market_model.proofs.PlaceLists.{all_put}
use Rattle.market_model.specs.RightAnswers.{price_of_parts}
use Rattle.bus_prices.proofs.pricing.put_totals.Goals as goal

pub returns-clause-prices : goal.returns-clause-prices
returns-clause-prices g c = λ energy congestion h.
    all_put (price_at g.N.Exact.value) (λ bus. price_of_parts energy (congestion bus)) c.loop-place.out c.loop-place.place-index (length c.args.out.now) c.loop-place.auto.out c.loop-place-test.false
    (c.loop-place.invariant.done energy congestion h)
