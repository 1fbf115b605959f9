use Rattle.settled_answer.proofs.SettledOutcomes.{law_of_first_prices}
use Rattle.settled_answer.proofs.laws.prices_are_first.Goals as goal

pub returns : goal.returns
returns c = law_of_first_prices
