use Rattle.market_system.proofs.LawsOfSolving.{law_of_the_solved}
use Rattle.market_system.proofs.laws.solved_is_supported.Goals as goal

pub returns : goal.returns
returns c = law_of_the_solved
