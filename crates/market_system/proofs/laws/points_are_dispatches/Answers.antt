use Rattle.market_system.proofs.LawsOfSolving.{law_of_the_points}
use Rattle.market_system.proofs.laws.points_are_dispatches.Goals as goal

pub returns : goal.returns
returns c = law_of_the_points
