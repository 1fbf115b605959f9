use Rattle.market_inputs.proofs.MarketLemmas.{whole-market}
use Rattle.market_inputs.proofs.clearing.whole_parts.Goals as goal

pub returns-clause-market : goal.returns-clause-market
returns-clause-market c =
    rw c.into_buses.ensures (whole-market c.args.places c.args.network c.args.covered c.args.limited c.requires.network c.requires.outages c.requires.lost c.requires.limited)
