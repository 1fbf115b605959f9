use Rattle.price_system.proofs.BestLemmas.{law_of_best_points}
use Rattle.price_system.proofs.laws.best_points_have_least_prices.Goals as goal

pub returns : goal.returns
returns c = law_of_best_points
