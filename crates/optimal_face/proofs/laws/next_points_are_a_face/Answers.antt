use Rattle.optimal_face.proofs.NextLemmas.{law_of_the_next}
use Rattle.optimal_face.proofs.laws.next_points_are_a_face.Goals as goal

pub returns : goal.returns
returns c = law_of_the_next
