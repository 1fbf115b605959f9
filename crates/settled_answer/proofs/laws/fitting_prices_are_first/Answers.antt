use Rattle.settled_answer.proofs.NumberLaws.{law_of_fitting_prices}
use Rattle.settled_answer.proofs.laws.fitting_prices_are_first.Goals as goal

pub returns : goal.returns
returns c = law_of_fitting_prices
