use Rattle.optimal_face.proofs.FirstLemmas.{law_of_the_first}
use Rattle.optimal_face.proofs.laws.first_points_agree.Goals as goal

pub returns : goal.returns
returns c = law_of_the_first
