-- Each refusal on the way to a settled answer is at a number that is too large.
use Rattle.std.specs.Prelude.{◌+◌}
use Rattle.std.proofs.Common.{inl, inr}
use Rattle.market_model.specs.declared.answered.Outcome.TheVariants as outcome
use Rattle.market_model.specs.SumTables.{factor_of_bus}
use Rattle.price_search.proofs.NumberLaws.{law_of_search_numbers}
use Rattle.settled_answer.specs.Laws.{LawOfAllPriceNumbers, LawOfFittingPrices, LawOfPriceNumbers}
use Rattle.settled_answer.specs.PriceNumbers.{factor_of_named, is_searched, of_priced, price_of_bus, settled_at}
use Rattle.settled_answer.specs.Settled.{first, of_money, of_prices, of_search, refused}
use Rattle.market_model.specs.RightAnswers.{dispatch_in}

pub law_of_price_numbers : LawOfPriceNumbers
law_of_price_numbers m a bound p fit (of_search why) = law_of_search_numbers m (dispatch_in a) a.duals bound p (λ n is. fit n (is_searched n is)) why
law_of_price_numbers m a bound p fit (of_prices d are_first (inl (i, lt, (terms, sum, why)))) = fit _ (of_priced d terms (why.place + 1) are_first (price_of_bus i terms lt sum)) why.too_large
law_of_price_numbers m a bound p fit (of_prices d are_first (inr (r, named, (terms, sum, why)))) =
    fit _ (of_priced d terms (why.place + 1) are_first (factor_of_named r terms named (factor_of_bus terms sum))) why.too_large
law_of_price_numbers m a bound p fit (of_money d are_first price are (inl (terms, sum, why))) = fit _ (of_priced d terms (why.place + 1) are_first (settled_at price terms are sum)) why.too_large
law_of_price_numbers m a bound p fit (of_money d are_first price are (inr (r, named, (terms, sum, why)))) = fit _ (of_priced d terms (why.place + 1) are_first (factor_of_named r terms named sum)) why.too_large

pub law_of_fitting_prices : LawOfFittingPrices
law_of_fitting_prices bound m (outcome.Cleared a) (first is) fit = is
law_of_fitting_prices bound m (outcome.Cleared a) (refused p chosen why) fit = absurd (law_of_price_numbers m a bound p fit why)
law_of_fitting_prices bound m (outcome.Infeasible f) settled fit = tt
law_of_fitting_prices bound m (outcome.Range p) settled fit = tt

pub law_of_all_price_numbers : LawOfAllPriceNumbers
law_of_all_price_numbers m bound fit a p right goes chosen = law_of_price_numbers m a bound p (fit a right goes chosen)
