use Rattle.market_inputs.proofs.MarketLemmas.{live-rows}
use Rattle.market_inputs.proofs.checking.inputs_of.Goals as goal

pub returns-clause-fit : goal.returns-clause-fit
returns-clause-fit c = record { reactances = c.in_ok-reactances.ensures.fit; outages = live-rows c.in_ok-network.network c.in_ok-tables.tables.outages c.in_ok-tables.ensures.kept }
