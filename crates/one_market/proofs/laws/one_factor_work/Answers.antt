use Rattle.one_market.proofs.Once.{one-factor-work}
use Rattle.one_market.proofs.laws.one_factor_work.Goals as goal

pub returns : goal.returns
returns c = one-factor-work
