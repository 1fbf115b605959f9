use Rattle.market_model.proofs.FarkasLaw.{law_of_infeasibility}
use Rattle.market_model.proofs.laws.farkas_leaves_nothing.Goals as goal

pub returns : goal.returns
returns c = law_of_infeasibility
