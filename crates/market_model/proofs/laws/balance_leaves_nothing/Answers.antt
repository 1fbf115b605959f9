use Rattle.market_model.proofs.Optimum.{law_of_no_limits}
use Rattle.market_model.proofs.laws.balance_leaves_nothing.Goals as goal

pub returns : goal.returns
returns c = law_of_no_limits
