use Rattle.price_system.proofs.BackLemmas.{law_of_points}
use Rattle.price_system.proofs.laws.points_support.Goals as goal

pub returns : goal.returns
returns c = law_of_points
