use Rattle.market_model.proofs.Optimum.{law_of_its_sign}
use Rattle.market_model.proofs.laws.surplus_is_not_negative.Goals as goal

pub returns : goal.returns
returns c = law_of_its_sign
