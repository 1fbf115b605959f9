use Rattle.std.proofs.Common.{Err, ◌≡◌, ◌∙◌, ap, reverse}
use Rattle.std.proofs.lemmas.Result.{err_from_is_err_and}
use Rattle.linear_dict.specs.Causes.{IsPairOf}
use Rattle.linear_dict.specs.Dictionaries.{system_in}
use Rattle.first_best.specs.Outcomes.{GoesFirst}
use Rattle.market_model.specs.declared.stops.Stop.TheVariants.{Passed as StoppedBy}
use Rattle.market_model.specs.Stops.{OnPassed}
use Rattle.price_dict.specs.Reached.{reached_system}
use Rattle.price_search.specs.Searching.{HoldsFirstPrices}
use Rattle.price_search.proofs.FirstLemmas.{first_holds, if_err, if_ok, pair_over}
use Rattle.price_search.proofs.solving.first_prices_dict.Goals as goal

pub returns-in_err-dict-clause-pair : goal.returns-in_err-dict-clause-pair
returns-in_err-dict-clause-pair g c = λ m x caps asks.
    let stop = c.in_err-dict.field-0.0 in
    let p = err_from_is_err_and c.from_residual.result c.from_residual.ensures.1 in
    let given : c.from_residual.result ≡ Err (StoppedBy stop) = p.1 ∙ ap Err p.2 in
    rw given (c.in_err-dict.ensures.pair m x caps asks)

pub first_dict-requires : goal.first_dict-requires
first_dict-requires g c = let a = c.requires.asks in record { best = (a.0, a.1, a.2, c.in_ok-dict.ensures.best a.0 a.1 a.2 a.3) }

pub returns-clause-first : goal.returns-clause-first
returns-clause-first g c = λ m x caps asks.
    let d = c.in_ok-dict.dict in
    if_ok (GoesFirst d (reverse d.columns)) (HoldsFirstPrices m x caps) c.first_dict.result
    (λ e goes. first_holds m x caps d e asks.market (c.in_ok-dict.ensures.best m x caps asks) goes c.first_points_of_fewer_are_first.ensures) c.first_dict.ensures.first

pub returns-clause-pair : goal.returns-clause-pair
returns-clause-pair g c = λ m x caps asks.
    let value = g.N.Exact.value in
    let bound = g.N.Exact.bound in
    let d = c.in_ok-dict.dict in
    if_err (λ stop. OnPassed stop (IsPairOf value bound (system_in d))) (λ stop. OnPassed stop (IsPairOf value bound (reached_system m x caps))) c.first_dict.result
    (λ stop pair. let best = c.in_ok-dict.ensures.best m x caps asks in pair_over value bound m x caps d stop best.holds pair) c.first_dict.ensures.pair
