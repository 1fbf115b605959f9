use Rattle.market_system.proofs.ModestClears.{law_of_modest_markets}
use Rattle.market_system.proofs.laws.modest_markets_fit.Goals as goal

pub returns : goal.returns
returns c = law_of_modest_markets
