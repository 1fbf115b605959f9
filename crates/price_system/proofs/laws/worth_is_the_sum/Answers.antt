use Rattle.price_system.proofs.SumLemmas.{law_of_the_sum}
use Rattle.price_system.proofs.laws.worth_is_the_sum.Goals as goal

pub returns : goal.returns
returns c = law_of_the_sum
