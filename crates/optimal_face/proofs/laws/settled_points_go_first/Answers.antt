use Rattle.optimal_face.proofs.StillLemmas.{law_of_the_settled}
use Rattle.optimal_face.proofs.laws.settled_points_go_first.Goals as goal

pub returns : goal.returns
returns c = law_of_the_settled
