use Rattle.one_price.proofs.NamedLemmas.{law_of_other_prices}
use Rattle.one_price.proofs.laws.prices_tell_the_duals.Goals as goal

pub returns : goal.returns
returns c = law_of_other_prices
