use Rattle.market_system.proofs.LawsOfSolving.{law_of_the_system}
use Rattle.market_system.proofs.laws.market_is_system.Goals as goal

pub returns : goal.returns
returns c = law_of_the_system
