use Rattle.market_system.proofs.LawsOfSolving.{law_of_the_answer}
use Rattle.market_system.proofs.laws.supported_is_right.Goals as goal

pub returns : goal.returns
returns c = law_of_the_answer
