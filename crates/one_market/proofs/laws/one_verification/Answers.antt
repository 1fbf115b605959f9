use Rattle.one_market.proofs.Once.{one-verification}
use Rattle.one_market.proofs.laws.one_verification.Goals as goal

pub returns : goal.returns
returns c = one-verification
