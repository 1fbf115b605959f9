use Rattle.market_model.proofs.Optimum.{law_of_the_surplus}
use Rattle.market_model.proofs.laws.surplus_is_rents.Goals as goal

pub returns : goal.returns
returns c = law_of_the_surplus
