use Rattle.market_model.proofs.Optimum.{law_of_the_optimum}
use Rattle.market_model.proofs.laws.supported_is_best.Goals as goal

pub returns : goal.returns
returns c = law_of_the_optimum
