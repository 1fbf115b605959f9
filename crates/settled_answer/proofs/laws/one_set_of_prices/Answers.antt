use Rattle.settled_answer.proofs.SettledLemmas.{law_of_one_set}
use Rattle.settled_answer.proofs.laws.one_set_of_prices.Goals as goal

pub returns : goal.returns
returns c = law_of_one_set
