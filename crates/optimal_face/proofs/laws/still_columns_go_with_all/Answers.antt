use Rattle.optimal_face.proofs.StillLemmas.{law_of_the_still}
use Rattle.optimal_face.proofs.laws.still_columns_go_with_all.Goals as goal

pub returns : goal.returns
returns c = law_of_the_still
