use Rattle.market_system.proofs.LawsOfSolving.{law_of_the_stuck}
use Rattle.market_system.proofs.laws.stuck_is_infeasible.Goals as goal

pub returns : goal.returns
returns c = law_of_the_stuck
