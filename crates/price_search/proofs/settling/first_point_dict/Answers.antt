use Rattle.market_model.specs.Stops.{OnPassed, StopsBy}
use Rattle.linear_dict.specs.Causes.{IsPairOf}
use Rattle.price_dict.specs.Reached.{reached_system}
use Rattle.price_search.specs.Settling.{IsPointRefusal}
use Rattle.price_search.proofs.FirstLemmas.{if_err}
use Rattle.price_search.proofs.SettlingLemmas.{asks_first, pair_refused}
use Rattle.price_search.proofs.settling.first_point_dict.Goals as goal

pub first_prices_dict-requires : goal.first_prices_dict-requires
first_prices_dict-requires g c =
    let m = c.args.market.now in
    let x = c.requires.0 in
    let caps = c.requires.1 in
    let is = c.requires.2 in
    record {
      asks = (
        m,
        x,
        caps,
        asks_first g.N.Exact.value m x caps c.in_ok-dict.dict c.args.posing.now c.slice.result.now c.slice-2.result.now c.lines-lines.ensures.market
            (c.in_ok-dict.ensures.holds x is.point.reached) is.posing c.slice.ensures c.slice-2.ensures is.supported,
      );
    }

pub returns-clause-first : goal.returns-clause-first
returns-clause-first g c = λ x caps is.
    let m = c.args.market.now in
    c.first_prices_dict.ensures.first m x caps (asks_first g.N.Exact.value m x caps c.in_ok-dict.dict c.args.posing.now c.slice.result.now c.slice-2.result.now c.lines-lines.ensures.market
    (c.in_ok-dict.ensures.holds x is.point.reached) is.posing c.slice.ensures c.slice-2.ensures is.supported)

pub returns-clause-stops : goal.returns-clause-stops
returns-clause-stops g c = λ x caps is.
    let m = c.args.market.now in
    let value = g.N.Exact.value in
    let bound = g.N.Exact.bound in
    let asks = asks_first value m x caps c.in_ok-dict.dict c.args.posing.now c.slice.result.now c.slice-2.result.now c.lines-lines.ensures.market
    (c.in_ok-dict.ensures.holds x is.point.reached) is.posing c.slice.ensures c.slice-2.ensures is.supported in
    if_err (λ stop. OnPassed stop (IsPairOf value bound (reached_system m x caps))) (StopsBy value (IsPointRefusal m x caps bound)) c.first_prices_dict.result
    (pair_refused value bound m x caps) (c.first_prices_dict.ensures.pair m x caps asks)
