use Rattle.first_prices.proofs.DualLemmas.{law_of_first_duals}
use Rattle.first_prices.proofs.laws.first_points_tell_the_first_duals.Goals as goal

pub returns : goal.returns
returns c = law_of_first_duals
