use Rattle.one_price.proofs.OneFirst.{law_of_one_price}
use Rattle.one_price.proofs.laws.first_prices_are_one.Goals as goal

pub returns : goal.returns
returns c = law_of_one_price
