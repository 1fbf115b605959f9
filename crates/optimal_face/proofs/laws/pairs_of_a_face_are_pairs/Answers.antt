use Rattle.optimal_face.proofs.NumberLemmas.{law_of_the_pairs}
use Rattle.optimal_face.proofs.laws.pairs_of_a_face_are_pairs.Goals as goal

pub returns : goal.returns
returns c = law_of_the_pairs
