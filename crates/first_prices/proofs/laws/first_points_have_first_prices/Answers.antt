use Rattle.first_prices.proofs.PointLemmas.{law_of_first_points}
use Rattle.first_prices.proofs.laws.first_points_have_first_prices.Goals as goal

pub returns : goal.returns
returns c = law_of_first_points
