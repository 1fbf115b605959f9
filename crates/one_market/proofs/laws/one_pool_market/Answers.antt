use Rattle.one_market.proofs.Once.{one-pool}
use Rattle.one_market.proofs.laws.one_pool_market.Goals as goal

pub returns : goal.returns
returns c = one-pool
