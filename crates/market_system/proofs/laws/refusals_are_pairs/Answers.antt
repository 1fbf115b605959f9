use Rattle.market_system.proofs.PairCases.{law_of_the_pairs}
use Rattle.market_system.proofs.laws.refusals_are_pairs.Goals as goal

pub returns : goal.returns
returns c = law_of_the_pairs
