use Rattle.market_system.proofs.LawsOfSolving.{law_of_growth}
use Rattle.market_system.proofs.laws.taken_limits_grow.Goals as goal

pub returns : goal.returns
returns c = law_of_growth
