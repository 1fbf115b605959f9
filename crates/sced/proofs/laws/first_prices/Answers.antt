use Rattle.sced.proofs.HeadlineLemmas.{law_of_first_prices}
use Rattle.sced.proofs.laws.first_prices.Goals as goal

pub returns : goal.returns
returns c = law_of_first_prices c.prices_are_first.ensures c.no_price_passes.ensures
