use Rattle.one_market.proofs.Once.{one-rights}
use Rattle.one_market.proofs.laws.one_rights_market.Goals as goal

pub returns : goal.returns
returns c = one-rights
