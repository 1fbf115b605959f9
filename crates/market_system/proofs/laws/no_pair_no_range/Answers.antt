use Rattle.market_system.proofs.Completeness.{law_of_completeness}
use Rattle.market_system.proofs.laws.no_pair_no_range.Goals as goal

pub returns : goal.returns
returns c = law_of_completeness
