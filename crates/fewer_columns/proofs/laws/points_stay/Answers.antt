use Rattle.fewer_columns.proofs.FewerLemmas.{law_of_fewer_points}
use Rattle.fewer_columns.proofs.laws.points_stay.Goals as goal

pub returns : goal.returns
returns c = law_of_fewer_points
