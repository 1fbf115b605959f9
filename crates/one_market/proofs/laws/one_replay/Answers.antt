use Rattle.one_market.proofs.Once.{one-replay}
use Rattle.one_market.proofs.laws.one_replay.Goals as goal

pub returns : goal.returns
returns c = one-replay
