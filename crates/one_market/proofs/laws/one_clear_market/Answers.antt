use Rattle.one_market.proofs.Once.{one-clear}
use Rattle.one_market.proofs.laws.one_clear_market.Goals as goal

pub returns : goal.returns
returns c = one-clear
