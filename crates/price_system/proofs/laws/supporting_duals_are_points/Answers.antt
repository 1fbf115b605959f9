use Rattle.price_system.proofs.BackLemmas.{law_of_duals}
use Rattle.price_system.proofs.laws.supporting_duals_are_points.Goals as goal

pub returns : goal.returns
returns c = law_of_duals
