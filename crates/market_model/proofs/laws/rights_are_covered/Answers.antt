use Rattle.market_model.proofs.RightsLaw.{law_of_the_rights}
use Rattle.market_model.proofs.laws.rights_are_covered.Goals as goal

pub returns : goal.returns
returns c = law_of_the_rights
