use Rattle.fewer_columns.proofs.FewerLemmas.{law_of_the_first_of_fewer}
use Rattle.fewer_columns.proofs.laws.first_points_of_fewer_are_first.Goals as goal

pub returns : goal.returns
returns c = law_of_the_first_of_fewer
