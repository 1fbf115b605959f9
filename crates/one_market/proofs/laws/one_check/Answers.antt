use Rattle.one_market.proofs.Once.{one-check}
use Rattle.one_market.proofs.laws.one_check.Goals as goal

pub returns : goal.returns
returns c = one-check
