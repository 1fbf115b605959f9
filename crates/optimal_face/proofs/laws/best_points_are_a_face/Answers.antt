use Rattle.optimal_face.proofs.FaceLemmas.{law_of_the_face}
use Rattle.optimal_face.proofs.laws.best_points_are_a_face.Goals as goal

pub returns : goal.returns
returns c = law_of_the_face
